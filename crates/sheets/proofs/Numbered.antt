-- Pairs of networks by their number.
use Rattle.std.proofs.Common.{◌≡◌, ℕ, ◌+◌, ◌*◌, ◌/◌, ◌%◌, ◌<◌, ◌≤◌, sym, ap, ◌∙◌, arith}
use Rattle.std.proofs.lemmas.Nat.{div-mul-add, mod-mul-add}
use Rattle.sheets.specs.Strips.{pairs_of, pair_number}
use Rattle.sheets.proofs.Rows.{row_end}

pub pair_below : (networks from to : ℕ) → from ≤ networks → to ≤ networks → pair_number networks from to < pairs_of networks
pair_below networks from to f t = let r = row_end from (networks + 1) (networks + 1) (omega arith) in omega arith

-- the strip of a pair ends within the strips
pub strip_inside : (networks depth from to : ℕ) → from ≤ networks → to ≤ networks → pair_number networks from to * depth + depth ≤ pairs_of networks * depth
strip_inside networks depth from to f t = row_end (pair_number networks from to) (pairs_of networks) depth (pair_below networks from to f t)

-- pairs with one number are the same
pub same_pair : (networks from to x y : ℕ) → to ≤ networks → y ≤ networks → pair_number networks from to ≡ pair_number networks x y → (from ≡ x) × (to ≡ y)
same_pair networks from to x y t h e =
    let side = networks + 1 in (
      sym (div-mul-add from side to (omega arith)) ∙ ap (λ (n : ℕ). n / side) e ∙ div-mul-add x side y (omega arith),
      sym (mod-mul-add from side to (omega arith)) ∙ ap (λ (n : ℕ). n % side) e ∙ mod-mul-add x side y (omega arith),
    )
