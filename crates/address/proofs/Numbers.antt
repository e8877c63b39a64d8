-- Numbers in the bytes of a header, the high byte first.
use Rattle.std.specs.Prelude.{◌≡◌, ℕ, ◌+◌, ◌<◌, List, take, drop, slice_index}
use Rattle.std.specs.Int.{w128, from_be_bytes}
use Rattle.std.proofs.Common.{◌∙◌, arith}
use Rattle.std.proofs.lemmas.List.{get_or-take, get_or-drop}
use Rattle.address.specs.Layouts.{number}

byte : (bytes : List ℕ) (at n i : ℕ) → i < n → slice_index (take n (drop at bytes)) i ≡ slice_index bytes (at + i)
byte bytes at n i h = get_or-take n (drop at bytes) i 0 h ∙ get_or-drop at bytes i 0

-- the number in sixteen bytes
pub sixteen : (bytes : List ℕ) (at : ℕ) → from_be_bytes w128 (take 16 (drop at bytes)) ≡ number bytes at 16
sixteen bytes at =
    let b : (i : ℕ) → i < 16 → slice_index (take 16 (drop at bytes)) i ≡ slice_index bytes (at + i) = byte bytes at 16 in
    omega (
      arith,
      b 0 (omega arith),
      b 1 (omega arith),
      b 2 (omega arith),
      b 3 (omega arith),
      b 4 (omega arith),
      b 5 (omega arith),
      b 6 (omega arith),
      b 7 (omega arith),
      b 8 (omega arith),
      b 9 (omega arith),
      b 10 (omega arith),
      b 11 (omega arith),
      b 12 (omega arith),
      b 13 (omega arith),
      b 14 (omega arith),
      b 15 (omega arith),
    )
