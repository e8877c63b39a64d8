-- Lists of runs that are the same, and the line that rows begin with.
use Rattle.std.proofs.Common.{◌≡◌, Bool, ◌&&◌, ◌==◌, Decides, ℕ, zero, suc, ◌+◌, ◌-◌, ◌<◌, ◌≤◌, List, [], ◌∷◌, length, get_or, take, sym, ap, ◌∙◌, ⊎_elim, arith}
use Rattle.std.proofs.lemmas.List.{get_or-take, get_or-drop, get_or-replicate, length-take-le}
use Rattle.std.proofs.lemmas.Bool.{cases_lt}
use Rattle.std.proofs.lemmas.Bool.Decides.{Decides-at, Decides-like, Decides-and, Decides-eqb}
use Rattle.std.specs.Cmp.Derive.Mapped.{pointwise-map}
use lib.Pointwise.{pointwise, pointwise_decides}
use Rattle.line.specs.declared.run.Run.{Run}
use Rattle.line.specs.Line.{Joined, Listed, Outline, outline}

-- two runs as they are compared, by a test of their labels
abbrev same_outline : {L : Type 0} → (L → L → Bool) → Outline L → Outline L → Bool
same_outline equals t u = t.0 == u.0 && (t.1 == u.1 && equals t.2 u.2)

module _ {P L : Type 0} (place : P → ℕ) (at : P → P → Bool) (by_place : (a b : P) → at a b ≡ (place a == place b))
    (equals : L → L → Bool) (tells : (a b : L) → Decides (equals a b) (a ≡ b)) where
  told : (t u : Outline L) → Decides (same_outline equals t u) (t ≡ u)
  told t u =
      Decides-like _ (λ e i. (e.0 i, e.1.0 i, e.1.1 i)) (λ e. (ap (λ (v : Outline L). v.0) e, (ap (λ (v : Outline L). v.1) e, ap (λ (v : Outline L). v.2) e)))
      (Decides-and _ _ (Decides-eqb t.0 u.0) (Decides-and _ _ (Decides-eqb t.1 u.1) (tells t.2 u.2)))

  -- two lists are one by `==`, where their points go by place and their labels by `equals`, exactly where their outlines are
  pub same_outlines : (runs others : List (Run P L))
      → Decides (pointwise (λ r o. at r.low o.low && (at r.high o.high && equals r.label o.label)) runs others) (outline place runs ≡ outline place others)
  same_outlines runs others =
      let outlined : Run P L → Outline L = λ r. (place r.low, place r.high, r.label) in
      let by_outline : pointwise (λ r o. at r.low o.low && (at r.high o.high && equals r.label o.label)) runs others ≡ pointwise (λ r o. same_outline equals (outlined r) (outlined o)) runs others =
      λ i. pointwise (λ r o. by_place r.low o.low i && (by_place r.high o.high i && equals r.label o.label)) runs others in
      Decides-at _ _ (by_outline ∙ sym (pointwise-map outlined (same_outline equals) runs others)) (pointwise_decides told (outline place runs) (outline place others))

module _ {P L : Type 0} (place : P → ℕ) where
  -- each run of a line ends at least as many places on as runs are before it
  row_high : (size from : ℕ) (rows : List (Run P L)) (k : ℕ) (d : Run P L) → k < length rows → Joined place size from rows → from + k ≤ place (get_or rows k d).high
  row_high size from [] k d h j = absurd (omega arith)
  row_high size from (r ∷ rows) zero d h j = omega (arith, j.1)
  row_high size from (r ∷ rows) (suc k) d h j = let later = row_high size (place r.high + 1) rows k d (omega arith) j.2 in omega (arith, j.1)

  module _ (size : ℕ) (some : 0 < size) (blank : Run P L) (first : place blank.high ≡ 0) (f : ℕ → L) (n : ℕ) (rows : List (Run P L)) (listed : Listed place size blank f n rows) where
    pub listed_some : 0 < n
    listed_some = ⊎_elim (λ (h : 0 < n). h) (λ (h : n ≤ 0). absurd (none n h listed.line.joined)) (cases_lt 0 n)
      where
        none : (m : ℕ) → m ≤ 0 → Joined place size 0 (take m rows) → ⊥
        none zero h j = empty rows j
          where
            empty : (l : List (Run P L)) → Joined place size 0 (take 0 l) → ⊥
            empty [] j = omega arith
            empty (r ∷ l) j = omega arith
        none (suc m) h j = omega arith

    module _ (mid : ℕ) (d : Run P L) (later : 0 < mid) (lt : mid < length rows) where
      pub listed_before : place (get_or rows mid d).high ≡ 0 → n ≤ mid
      listed_before zero_high =
          ⊎_elim (λ (h : mid < n).
          let long = length-take-le n rows listed.fits in
          let high = row_high size 0 (take n rows) mid d (omega arith) listed.line.joined in
          let e = ap (λ (w : Run P L). place w.high) (get_or-take n rows mid d h) in
          absurd (omega arith))
          (λ (h : n ≤ mid). h) (cases_lt mid n)

      pub listed_after : (place (get_or rows mid d).high ≡ 0 → ⊥) → mid < n
      listed_after other =
          ⊎_elim (λ (h : mid < n). h)
          (λ (h : n ≤ mid).
          let same : get_or rows mid d ≡ blank =
          ap (λ (k : ℕ). get_or rows k d) {x = mid} {y = n + (mid - n)} (omega arith) ∙ sym (get_or-drop n rows (mid - n) d) ∙ ap (λ (l : List (Run P L)). get_or l (mid - n) d) listed.blanks
          ∙ get_or-replicate (length rows - n) (mid - n) blank d (omega arith) in
          absurd (other (ap (λ (w : Run P L). place w.high) same ∙ first)))
          (cases_lt mid n)
