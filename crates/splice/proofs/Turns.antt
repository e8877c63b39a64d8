-- The two sides of a new run in a line.
use Rattle.std.proofs.Common.{◌≡◌, ℕ, zero, suc, ◌+◌, ◌-◌, ◌<◌, List, [], ◌∷◌, length, get_or, sym, ap, ◌∙◌, inl, inr, arith}
use Rattle.line.specs.declared.run.Run.{Run}
use Rattle.line.specs.Line.{Joined, Line}
use Rattle.line.proofs.Lines.{joined_le, order}
use Rattle.line.proofs.Rows.{row_keeps, row_first, row_next, row_last}
use Rattle.splice.specs.Changes.{Part}
use Rattle.splice.proofs.Parts.{part_turns}

module _ {P L : Type 0} (place : P → ℕ) (size : ℕ) (f : ℕ → L) (rows : List (Run P L)) (line : Line place size f rows) where
  whole : Part place f size 0 rows
  whole = record { joined = line.joined; painted = line.painted; differ = line.differ }

  -- the labelling turns after a row that another one follows
  pub turn_next : (k : ℕ) (d : Run P L) → k + 1 < length rows → f (place (get_or rows k d).high) ≡ f (place (get_or rows k d).high + 1) → ⊥
  turn_next k d lt e =
      let here = row_keeps place f rows k d (omega arith) line.painted in
      let there = row_keeps place f rows (k + 1) d lt line.painted in
      let next = row_next place size 0 rows k d lt line.joined in
      let a = here.ordered in
      let b = there.ordered in
      part_turns place f size 0 rows k d lt whole
      (sym (here.labelled _ a (omega arith)) ∙ e ∙ ap f (sym next) ∙ there.labelled _ (omega arith) b)

  pub turn_after : (k : ℕ) (d : Run P L) → k < length rows → place (get_or rows k d).high + 1 < size
      → (k + 1 < length rows) × (f (place (get_or rows k d).high) ≡ f (place (get_or rows k d).high + 1) → ⊥)
  turn_after k d lt below =
      elim (order (k + 1) (length rows)) [
        | inl h ↦ (h, turn_next k d h)
        | inr (inl e) ↦ let last = row_last place size 0 rows k d e line.joined in absurd (omega arith)
        | inr (inr h) ↦ absurd (omega arith)
      ]

  pub turn_before : (k : ℕ) (d : Run P L) → k < length rows → 0 < place (get_or rows k d).low
      → (0 < k) × (place (get_or rows (k - 1) d).high + 1 ≡ place (get_or rows k d).low) × (f (place (get_or rows k d).low - 1) ≡ f (place (get_or rows k d).low) → ⊥)
  turn_before zero d lt pos =
      let first = row_first place size 0 rows d (inside rows line.joined) line.joined in
      absurd (omega arith)
    where
      inside : (zs : List (Run P L)) → Joined place size 0 zs → 0 < size
      inside [] j = absurd (none rows lt line.joined)
        where
          none : (ys : List (Run P L)) → 0 < length ys → Joined place size 0 ys → ⊥
          none [] h i = omega arith
          none (y ∷ ys) h i = let m = joined_le place size _ ys i.2 in omega arith
      inside (z ∷ zs) j = let m = joined_le place size _ zs j.2 in omega arith
  turn_before (suc k) d lt pos =
      let one : suc k - 1 ≡ k = omega arith in
      let more : k + 1 ≡ suc k = omega arith in
      let next : place (get_or rows (suc k) d).low ≡ place (get_or rows k d).high + 1 = rw (← more) (row_next place size 0 rows k d (omega arith) line.joined) in
      let back : place (get_or rows (suc k) d).low - 1 ≡ place (get_or rows k d).high = omega arith in
      (omega arith, rw one (sym next), λ e. turn_next k d (omega arith) (ap f (sym back) ∙ e ∙ ap f next))
