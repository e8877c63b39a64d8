-- The rows of a line by their number, and one row more.
use Rattle.std.proofs.Common.{◌≡◌, ℕ, zero, suc, ◌+◌, ◌-◌, ◌<◌, ◌≤◌, ◌⊎◌, List, [], ◌∷◌, ◌++◌, length, get_or, refl, ◌∙◌, inl, inr, add-one, arith}
use Rattle.line.specs.declared.run.Run.{Run}
use Rattle.line.specs.Line.{Keeps, Joined, Painted, Differ}
use Rattle.line.proofs.Lines.{joined_le, order}

module _ {P L : Type 0} (place : P → ℕ) where
  pub joined_push : (to from : ℕ) (rows : List (Run P L)) (r : Run P L) → Joined place to from rows
      → place r.low ≡ to → to ≤ place r.high → Joined place (place r.high + 1) from (rows ++ r ∷ [])
  joined_push to from [] r j e le = (omega arith, omega arith, refl)
  joined_push to from (a ∷ rows) r j e le = (j.0, j.1, joined_push to (place a.high + 1) rows r j.2 e le)

  pub painted_push : (f : ℕ → L) (rows : List (Run P L)) (r : Run P L) → Painted place f rows
      → Keeps f r.label (place r.low) (place r.high) → Painted place f (rows ++ r ∷ [])
  painted_push f [] r p k = (k, tt)
  painted_push f (a ∷ rows) r p k = (p.0, painted_push f rows r p.1 k)

  pub differ_push : (to from : ℕ) (f : ℕ → L) (rows : List (Run P L)) (r : Run P L) → Joined place to from rows → Painted place f rows → Differ rows
      → (from < to → f (to - 1) ≡ r.label → ⊥) → Differ (rows ++ r ∷ [])
  differ_push to from f [] r j p d h = (tt, tt)
  differ_push to from f (a ∷ []) r j p d h =
      let last = p.0.labelled (to - 1) (omega arith) (omega arith) in
      (λ e. h (omega arith) (last ∙ e), (tt, tt))
  differ_push to from f (a ∷ b ∷ rows) r j p d h =
      (d.0, differ_push to (place a.high + 1) f (b ∷ rows) r j.2 p.1 d.1 (λ _. h (omega (arith, joined_le place to (place b.high + 1) rows j.2.2))))

  pub row_keeps : (f : ℕ → L) (rows : List (Run P L)) (k : ℕ) (d : Run P L) → k < length rows → Painted place f rows
      → Keeps f (get_or rows k d).label (place (get_or rows k d).low) (place (get_or rows k d).high)
  row_keeps f [] k d lt p = absurd (omega arith)
  row_keeps f (r ∷ rows) zero d lt p = p.0
  row_keeps f (r ∷ rows) (suc k) d lt p = row_keeps f rows k d (omega arith) p.1

  pub row_first : (size from : ℕ) (rows : List (Run P L)) (d : Run P L) → from < size → Joined place size from rows → place (get_or rows 0 d).low ≡ from
  row_first size from [] d lt j = absurd (omega arith)
  row_first size from (r ∷ rows) d lt j = j.0

  pub row_next : (size from : ℕ) (rows : List (Run P L)) (k : ℕ) (d : Run P L) → k + 1 < length rows → Joined place size from rows
      → place (get_or rows (k + 1) d).low ≡ place (get_or rows k d).high + 1
  row_next size from [] k d lt j = absurd (omega arith)
  row_next size from (r ∷ []) zero d lt j = absurd (omega arith)
  row_next size from (r ∷ []) (suc k) d lt j = absurd (omega arith)
  row_next size from (r ∷ q ∷ rows) zero d lt j = j.2.0
  row_next size from (r ∷ q ∷ rows) (suc k) d lt j =
      let next = row_next size (place r.high + 1) (q ∷ rows) k d (omega arith) j.2 in
      simp add-one (simp add-one at next)

  pub row_last : (size from : ℕ) (rows : List (Run P L)) (k : ℕ) (d : Run P L) → k + 1 ≡ length rows → Joined place size from rows
      → place (get_or rows k d).high + 1 ≡ size
  row_last size from [] k d e j = absurd (omega arith)
  row_last size from (r ∷ []) zero d e j = j.2
  row_last size from (r ∷ []) (suc k) d e j = absurd (omega arith)
  row_last size from (r ∷ q ∷ rows) zero d e j = absurd (omega arith)
  row_last size from (r ∷ q ∷ rows) (suc k) d e j = row_last size (place r.high + 1) (q ∷ rows) k d (omega arith) j.2

  -- the row that begins no later than x, with the next one after x, holds x
  pub row_holds : (size : ℕ) (rows : List (Run P L)) (i x : ℕ) (d : Run P L) → Joined place size 0 rows → i < length rows → x < size
      → (0 < i → place (get_or rows i d).low ≤ x) → (i + 1 < length rows → x < place (get_or rows (i + 1) d).low)
      → (place (get_or rows i d).low ≤ x) × (x ≤ place (get_or rows i d).high)
  row_holds size rows i x d j lt below low high = (begins i low, ends (order (i + 1) (length rows)))
    where
      begins : (k : ℕ) → (0 < k → place (get_or rows k d).low ≤ x) → place (get_or rows k d).low ≤ x
      begins zero low = let first = row_first size 0 rows d (omega arith) j in omega arith
      begins (suc k) low = low (omega arith)

      ends : ((i + 1 < length rows) ⊎ ((i + 1 ≡ length rows) ⊎ (length rows < i + 1))) → x ≤ place (get_or rows i d).high
      ends (inl h) = let next = row_next size 0 rows i d h j in omega (arith, high h)
      ends (inr (inl h)) = let last = row_last size 0 rows i d h j in omega arith
      ends (inr (inr h)) = absurd (omega arith)
