-- The four numbers of an IPv4 text, one after another.
use Rattle.std.specs.Prelude.{◌≡◌, ℕ, ◌+◌, ◌/◌, ◌%◌, ◌^◌, ◌<◌, List, [], ◌∷◌, ◌++◌, length, decimal, slice_index}
use Rattle.std.specs.Int.{w32, to_be_bytes}
use Rattle.std.proofs.Common.{append_assoc, arith, ap, ◌∙◌}
use Rattle.std.proofs.lemmas.List.{length-append}
use Rattle.address.specs.Texts.{text4}

-- a number and the dot that ends it
abbrev pub begun : ℕ → List ℕ
begun n = decimal n ++ (46 ∷ [])

-- an IPv4 text is three numbers with their dots, and a fourth
pub parts4 : (v : ℕ) → text4 v ≡ begun (v / 16777216) ++ (begun (v / 65536 % 256) ++ (begun (v / 256 % 256) ++ decimal (v % 256)))
parts4 v = simp append_assoc

-- the numbers are the bytes of the address, the highest first
pub bytes4 : (v last : ℕ) (bytes : List ℕ) → v < 2 ^ 32 → bytes ≡ to_be_bytes w32 v → last ≡ slice_index bytes 3
    → text4 v ≡ begun (slice_index bytes 0) ++ (begun (slice_index bytes 1) ++ (begun (slice_index bytes 2) ++ decimal last))
bytes4 v last bytes fits is l =
    let a : slice_index bytes 0 ≡ v / 16777216 = ap (λ (q : List ℕ). slice_index q 0) is ∙ omega arith in
    let b : slice_index bytes 1 ≡ v / 65536 % 256 = ap (λ (q : List ℕ). slice_index q 1) is in
    let c : slice_index bytes 2 ≡ v / 256 % 256 = ap (λ (q : List ℕ). slice_index q 2) is in
    let d : last ≡ v % 256 = l ∙ ap (λ (q : List ℕ). slice_index q 3) is in
    rw (a, b, c, d) (parts4 v)

-- the length of an IPv4 text: four numbers and three dots
pub long4 : (v : ℕ) → length (text4 v) ≡ length (decimal (v / 16777216)) + (length (decimal (v / 65536 % 256)) + (length (decimal (v / 256 % 256)) + (length (decimal (v % 256)) + 3)))
long4 v = simp length-append (omega arith)
