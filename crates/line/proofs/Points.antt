-- What `<` and `<=` answer of points, from the law `ordered_by_place` of their kind.
use Rattle.std.proofs.Common.{◌≡◌, ℕ, ◌<◌, ◌≤◌, true, false, leb, ltb, ltb-false, ltb-true, Ordering, Option, Some, sym, ◌∙◌, arith}
use Rattle.std.specs.Ordering.{nat_cmp, partial_lt, partial_le}
use Rattle.std.proofs.lemmas.Bool.Decides.{nat_tests}

module _ {P : Type 0} (place : P → ℕ) (order : P → P → Option Ordering) (law : (a b : P) → order a b ≡ Some (nat_cmp (place a) (place b))) (a b : P) where
  pub lt_by_place : partial_lt order a b ≡ ltb (place a) (place b)
  lt_by_place = rw (law a b) (grind (arith, nat_tests))

  pub le_by_place : partial_le order a b ≡ leb (place a) (place b)
  le_by_place = rw (law a b) (grind (arith, nat_tests))

  pub before : true ≡ partial_lt order a b → place a < place b
  before e = ltb-true _ _ (sym (e ∙ lt_by_place))

  pub not_before : false ≡ partial_lt order a b → place b ≤ place a
  not_before e = ltb-false _ _ (sym (e ∙ lt_by_place))
