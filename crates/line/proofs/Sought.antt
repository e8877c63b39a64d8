-- Which run a search finds that tells, of the runs after the first, those which begin no later than the place.
use Rattle.std.proofs.Common.{◌≡◌, ℕ, zero, suc, ◌+◌, ◌-◌, ◌<◌, ◌≤◌, leb, Bool, true, false, Decides, inl, inr, List, [], ◌∷◌, length, get_or, take, drop, ap, ◌∙◌, zero-le, subst, sym, arith}
use Rattle.std.proofs.lemmas.Bool.Decides.{Decides-like}
use Rattle.std.specs.List.Sorted.{IsNonDecreasingBy, IsPartitionPoint, IsPartitionedBy}
use Rattle.std.proofs.lemmas.Bool.{false≢true, leb-true, leb-false}
use Rattle.std.proofs.lemmas.List.{get_or-take, get_or-drop, length-drop, length-take-le}
use Rattle.line.specs.declared.run.Run.{Run}
use Rattle.line.specs.Line.{Joined, Listed}
use Rattle.line.specs.Search.{Spans}
use Rattle.line.proofs.Lines.{order}
use Rattle.line.proofs.Rows.{row_holds}
use Rattle.line.proofs.Compared.{listed_some, listed_before, listed_after}

-- a list without its first
abbrev pub later : {X : Type 0} → List X → List X
later xs = take (length xs - 1) (drop 1 xs)

module _ {X : Type 0} (xs : List X) where
  pub later_length : length (later xs) ≡ length xs - 1
  later_length = let d = length-drop 1 xs in length-take-le (length xs - 1) (drop 1 xs) (omega arith)

  pub later_at : (k : ℕ) (d : X) → k < length xs - 1 → get_or (later xs) k d ≡ get_or xs (k + 1) d
  later_at k d lt =
      let turned : 1 + k ≡ k + 1 = omega arith in
      get_or-take (length xs - 1) (drop 1 xs) k d lt ∙ get_or-drop 1 xs k d ∙ ap (λ (i : ℕ). get_or xs i d) turned

module _ {P L : Type 0} (place : P → ℕ) where
  -- no run begins before the place from which the runs follow one another
  row_low : (size from : ℕ) (rows : List (Run P L)) (k : ℕ) (d : Run P L) → k < length rows → Joined place size from rows → from ≤ place (get_or rows k d).low
  row_low size from [] k d h j = absurd (omega arith)
  row_low size from (r ∷ rows) zero d h j = omega (arith, j.0)
  row_low size from (r ∷ rows) (suc k) d h j = let next = row_low size (place r.high + 1) rows k d (omega arith) j.2 in omega (arith, j.1)

  rising : (size from : ℕ) (rows : List (Run P L)) (i k : ℕ) (d : Run P L) → i ≤ k → k < length rows → Joined place size from rows
      → place (get_or rows i d).low ≤ place (get_or rows k d).low
  rising size from [] i k d le lt j = absurd (omega arith)
  rising size from (r ∷ rows) zero k d le lt j = let low = row_low size from (r ∷ rows) k d lt j in omega (arith, j.0)
  rising size from (r ∷ rows) (suc i) zero d le lt j = absurd (omega arith)
  rising size from (r ∷ rows) (suc i) (suc k) d le lt j = rising size (place r.high + 1) rows i k d (omega arith) (omega arith) j.2

  module _ (size : ℕ) (rows : List (Run P L)) (joined : Joined place size 0 rows) where
    pub later_rise : IsNonDecreasingBy (λ r. place r.low) (later rows)
    later_rise i k d le lt =
        let long = later_length rows in
        let a = ap (λ (r : Run P L). place r.low) (later_at rows i d (omega arith)) in
        let b = ap (λ (r : Run P L). place r.low) (later_at rows k d (omega arith)) in
        let up = rising size 0 rows (i + 1) (k + 1) d (omega arith) (omega arith) joined in
        omega arith

    -- as many runs as begin no later, of those after the first, stand before the run that holds x
    pub sought : (x i : ℕ) (d : Run P L) → x < size → i < length rows
        → IsPartitionPoint (λ (r : Run P L). leb (place r.low) x ≡ true) (λ (r : Run P L). leb (place r.low) x ≡ false) (later rows) i
        → Spans place x (get_or rows i d)
    sought x i d inside lt point =
        let long = later_length rows in
        let holds = row_holds place size rows i x d joined lt inside
        (λ some. let e : i - 1 + 1 ≡ i = omega arith in
        let at = later_at rows (i - 1) d (omega arith) ∙ ap (λ (k : ℕ). get_or rows k d) e in
        leb-true _ x (subst (λ (r : Run P L). leb (place r.low) x ≡ true) at (point.0 (i - 1) d zero-le (omega arith))))
        (λ more. leb-false _ x (subst (λ (r : Run P L). leb (place r.low) x ≡ false) (later_at rows i d (omega arith)) (point.1 i d (omega arith) (omega arith)))) in
        record { from = holds.0; to = holds.1 }

-- where rows are a line and then rows that end at the first place, the line ends with the last row after the first that does not end there
module _ {P L : Type 0} (place : P → ℕ) (size : ℕ) (some : 0 < size) (blank : Run P L) (first : place blank.high ≡ 0) (f : ℕ → L) (n : ℕ) (rows : List (Run P L))
    (listed : Listed place size blank f n rows) (test : Run P L → Bool) (tells : (r : Run P L) → Decides (test r) (place r.high ≡ 0 → ⊥)) where
  in_line : (k : ℕ) (d : Run P L) → k < length rows - 1 → Decides (test (get_or (later rows) k d)) (k + 1 < n)
  in_line k d lt =
      let row = get_or rows (k + 1) d in
      let same : test row ≡ test (get_or (later rows) k d) = ap test (sym (later_at rows k d lt)) in
      subst (λ (b : Bool). Decides b (k + 1 < n)) same
      (Decides-like (test row)
      (λ other. listed_after place size some blank first f n rows listed (k + 1) d (omega arith) (omega arith) other)
      (λ inside zero_high. let out = listed_before place size some blank first f n rows listed (k + 1) d (omega arith) (omega arith) zero_high in omega arith)
      (tells row))

  pub line_parted : IsPartitionedBy test (later rows)
  line_parted i k d le lt holds =
      let long = later_length rows in
      let inside = (in_line k d (omega arith)).0 holds in
      (in_line i d (omega arith)).1 (omega arith)

  pub line_ends : (i : ℕ) (d : Run P L) → i < length rows → IsPartitionPoint (λ (r : Run P L). test r ≡ true) (λ (r : Run P L). test r ≡ false) (later rows) i → i + 1 ≡ n
  line_ends i d lt point =
      let long = later_length rows in
      let pos = listed_some place size some blank first f n rows listed in
      elim (order n (i + 1)) [
        | inl less ↦
            let inside = (in_line (n - 1) d (omega (arith, pos))).0 (point.0 (n - 1) d zero-le (omega (arith, pos))) in
            absurd (omega (arith, inside, pos))
        | inr (inl e) ↦ sym e
        | inr (inr more) ↦
            let fits = listed.fits in
            absurd (false≢true (sym (point.1 i d (omega arith) (omega arith)) ∙ (in_line i d (omega arith)).1 more))
      ]
