-- The hexadecimal digits of bytes, place by place.
use Rattle.std.proofs.Common.{◌≡◌, ℕ, zero, suc, ◌+◌, ◌*◌, ◌/◌, ◌%◌, ◌<◌, List, [], ◌∷◌, ◌++◌, length, get_or, take, drop, sym, refl, ap, ◌∙◌, append_assoc, le_of_suc-le-suc, not-suc-le-zero, arith}
use Rattle.std.proofs.lemmas.List.{take_more, drop-drop, get_or-take, get_or-drop}
use Rattle.std.specs.Simd.{first_chunks}
use Rattle.text.specs.Parts.{Lacks}
use Rattle.address.specs.Texts.{digit}
use Rattle.address.specs.Groups.{digit_high}
use Rattle.packets.specs.Rows.{hexed}

-- two digits to a byte
pub length_hexed : (bytes : List ℕ) → length (hexed bytes) ≡ 2 * length bytes
length_hexed [] = refl
length_hexed (b ∷ bytes) = let e = length_hexed bytes in omega arith

-- the pair of digits at a place, among pairs
pair_at : (digits : List ℕ) (k i : ℕ) (d : List ℕ) → i < k → get_or (first_chunks 2 k digits) i d ≡ take 2 (drop (2 * i) digits)
pair_at digits zero i d h = absurd (not-suc-le-zero h)
pair_at digits (suc k) zero d h = refl
pair_at digits (suc k) (suc i) d h =
    let two : 2 + 2 * i ≡ 2 * suc i = omega arith in
    pair_at (drop 2 digits) k i d (le_of_suc-le-suc h) ∙ ap (λ (q : List ℕ). take 2 q) (drop-drop (2 * i) 2 digits ∙ ap (λ (n : ℕ). drop n digits) two)

-- its first digit
pub first_of : (pairs : List (List ℕ)) (digits : List ℕ) (k i : ℕ) (d : List ℕ) → pairs ≡ first_chunks 2 k digits → i < k → get_or (get_or pairs i d) 0 0 ≡ get_or digits (2 * i) 0
first_of pairs digits k i d is h =
    let none : 2 * i + 0 ≡ 2 * i = omega arith in
    ap (λ (ps : List (List ℕ)). get_or (get_or ps i d) 0 0) is
    ∙ (ap (λ (q : List ℕ). get_or q 0 0) (pair_at digits k i d h) ∙ (get_or-take 2 (drop (2 * i) digits) 0 0 (omega arith) ∙ (get_or-drop (2 * i) digits 0 0 ∙ ap (λ (n : ℕ). get_or digits n 0) none)))

-- and its second
pub second_of : (pairs : List (List ℕ)) (digits : List ℕ) (k i : ℕ) (d : List ℕ) → pairs ≡ first_chunks 2 k digits → i < k → get_or (get_or pairs i d) 1 0 ≡ get_or digits (2 * i + 1) 0
second_of pairs digits k i d is h =
    ap (λ (ps : List (List ℕ)). get_or (get_or ps i d) 1 0) is
    ∙ (ap (λ (q : List ℕ). get_or q 1 0) (pair_at digits k i d h) ∙ (get_or-take 2 (drop (2 * i) digits) 1 0 (omega arith) ∙ get_or-drop (2 * i) digits 1 0))

-- the high digit of a byte
pub high_at : (bytes : List ℕ) (i : ℕ) → i < length bytes → get_or (hexed bytes) (2 * i) 0 ≡ digit (get_or bytes i 0 / 16)
high_at [] i h = absurd (not-suc-le-zero h)
high_at (b ∷ bytes) zero h = refl
high_at (b ∷ bytes) (suc i) h =
    let two : 2 * suc i ≡ suc (suc (2 * i)) = omega arith in
    ap (λ (k : ℕ). get_or (hexed (b ∷ bytes)) k 0) two ∙ high_at bytes i (le_of_suc-le-suc h)

-- the low digit of a byte
pub low_at : (bytes : List ℕ) (i : ℕ) → i < length bytes → get_or (hexed bytes) (2 * i + 1) 0 ≡ digit (get_or bytes i 0 % 16)
low_at [] i h = absurd (not-suc-le-zero h)
low_at (b ∷ bytes) zero h = refl
low_at (b ∷ bytes) (suc i) h =
    let two : 2 * suc i + 1 ≡ suc (suc (2 * i + 1)) = omega arith in
    ap (λ (k : ℕ). get_or (hexed (b ∷ bytes)) k 0) two ∙ low_at bytes i (le_of_suc-le-suc h)

hexed_more : (bytes : List ℕ) (b : ℕ) → hexed (bytes ++ (b ∷ [])) ≡ hexed bytes ++ (digit (b / 16) ∷ (digit (b % 16) ∷ []))
hexed_more [] b = refl
hexed_more (x ∷ bytes) b = ap (λ (q : List ℕ). digit (x / 16) ∷ (digit (x % 16) ∷ q)) (hexed_more bytes b)

two_more : (digits : List ℕ) (i : ℕ) → 2 * i + 1 < length digits → take (2 * (i + 1)) digits ≡ take (2 * i) digits ++ (get_or digits (2 * i) 0 ∷ (get_or digits (2 * i + 1) 0 ∷ []))
two_more digits i h =
    let two : 2 * (i + 1) ≡ 2 * i + 1 + 1 = omega arith in
    ap (λ (k : ℕ). take k digits) two ∙ (take_more digits (2 * i + 1) 0 h ∙ (ap (λ (q : List ℕ). q ++ (get_or digits (2 * i + 1) 0 ∷ [])) (take_more digits (2 * i) 0 (omega arith))
    ∙ append_assoc (take (2 * i) digits) (get_or digits (2 * i) 0 ∷ []) (get_or digits (2 * i + 1) 0 ∷ [])))

-- one byte more has the next two digits
pub byte_more : (bytes digits : List ℕ) (i high low : ℕ) → 2 * i + 1 < length digits → hexed bytes ≡ take (2 * i) digits → high < 16 → low < 16 → digit high ≡ get_or digits (2 * i) 0 → digit low ≡ get_or digits (2 * i + 1) 0
    → hexed (bytes ++ ((high * 16 + low) ∷ [])) ≡ take (2 * (i + 1)) digits
byte_more bytes digits i high low h was lh ll eh el =
    let a : (high * 16 + low) / 16 ≡ high = omega arith in
    let b : (high * 16 + low) % 16 ≡ low = omega arith in
    hexed_more bytes (high * 16 + low)
    ∙ (ap (λ (q : List ℕ). q ++ (digit ((high * 16 + low) / 16) ∷ (digit ((high * 16 + low) % 16) ∷ []))) was
    ∙ (ap (λ (n : ℕ). take (2 * i) digits ++ (n ∷ (digit ((high * 16 + low) % 16) ∷ []))) (ap digit a ∙ eh)
    ∙ (ap (λ (n : ℕ). take (2 * i) digits ++ (get_or digits (2 * i) 0 ∷ (n ∷ []))) (ap digit b ∙ el) ∙ sym (two_more digits i h))))

high : (stop d : ℕ) → stop < 48 → digit d ≡ stop → ⊥
high stop d low e = let h = digit_high d in omega arith

-- digits have no byte below '0'
pub hexed_plain : (stop : ℕ) (bytes : List ℕ) → stop < 48 → Lacks stop (hexed bytes)
hexed_plain stop [] low = tt
hexed_plain stop (b ∷ bytes) low = (high stop (b / 16) low, (high stop (b % 16) low, hexed_plain stop bytes low))
