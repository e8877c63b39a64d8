-- One value written into each place of a list, or of a part of it.
use Rattle.std.proofs.Common.{◌≡◌, ℕ, ◌+◌, ◌≤◌, List, [], ◌∷◌, ◌++◌, length, take, drop, replicate, refl, subst, ap, ◌∙◌, arith}
use Rattle.std.specs.List.{FoldsTo}
use borrow.Rule.Slice.PartMut.{put_mid, post_of}
use Rattle.std.proofs.lemmas.List.{drop_at, drop-drop, length-drop, length-take-le}

-- what a closure that always gives y has filled
pub filled_with : {F X : Type 0} (step : F → X → F → Type 0) (y : X) (f : F) → ((x : X) (q : F) → step f x q → (x ≡ y) × (q ≡ f))
    → (xs : List X) (last : F) → FoldsTo step f xs last → xs ≡ replicate (length xs) y
filled_with step y f same [] last folds = refl
filled_with step y f same (x ∷ xs) last folds =
    let first = same x folds.0 folds.1 in
    let rest = filled_with step y f same xs last (subst (λ (q : _). FoldsTo step q xs last) first.1 folds.2) in
    λ i. first.0 i ∷ rest i

-- the rows from n to m are filled: those before and after stay
module _ {X : Type 0} (y : X) (rows ys : List X) (n k : ℕ) (fits : n + k ≤ length rows) (is : ys ≡ replicate (length (take k (drop n rows))) y) where
  many : length (take k (drop n rows)) ≡ k
  many = let d = length-drop n rows in length-take-le k (drop n rows) (omega arith)

  pub filled : ys ≡ replicate k y
  filled = is ∙ ap (λ (m : ℕ). replicate m y) many

  pub filled_after : drop n (put_mid n k rows ys) ≡ replicate k y ++ drop (n + k) rows
  filled_after =
      let front = length-take-le n rows (omega arith) in
      drop_at (take n rows) (ys ++ post_of n k rows) n front ∙ ap (λ (zs : List X). ys ++ zs) (drop-drop k n rows) ∙ ap (λ (zs : List X). zs ++ drop (n + k) rows) filled
