-- When a text is the decimal digits of a number of 32 bits.
use Rattle.std.proofs.Common.{◌≡◌, ℕ, ◌^◌, ◌<◌, ◌≤◌, List, length, get_or, decimal, sym, ap, ◌∙◌, subst, ⊎_elim, arith}
use Rattle.std.specs.Str.Parse.{digits_value, AllDigits}
use Rattle.std.specs.Int.{IsInRange}
use Rattle.std.proofs.lemmas.Str.Parse.{IsNumeralModel, numerals_by_value, tells_digits, digit_at, digits_value_short}
use Rattle.std.proofs.lemmas.Fmt.{decimal_nonempty, length-decimal-le, first_decimal, digits_decimal, digits_value-decimal, decimal-digits_value}
use Rattle.std.proofs.ByRecursion.{All-from_get_or}
use Rattle.std.proofs.lemmas.Bool.{cases_eq}
use Rattle.text.specs.Parts.{Lacks}

own : IsNumeralModel (AllDigits 10) (digits_value 10)
own = numerals_by_value (AllDigits 10) tells_digits

-- such a text is not empty, and has at most ten digits
pub lengths : (bs : List ℕ) (n : ℕ) → n < 2 ^ 32 → decimal n ≡ bs → (0 < length bs) × (length bs ≤ 10)
lengths bs n h e =
    let s = decimal_nonempty n (omega arith) in
    let l = length-decimal-le 10 n (omega arith) (omega arith) (omega arith) in
    (omega (arith, ap length e), omega (arith, ap length e))

-- no zero leads a longer text
pub leads : (bs : List ℕ) → 1 < length bs → get_or bs 0 0 ≡ 48 → (n : ℕ) → n < 2 ^ 32 → decimal n ≡ bs → ⊥
leads bs long z n h e =
    ⊎_elim
    (λ (t : n ≡ 0). let l = length-decimal-le 1 n (omega arith) (omega arith) (omega arith) in omega (arith, ap length e))
    (λ (t : n ≡ 0 → ⊥).
    let p : 0 < n = omega arith in
    let f = first_decimal n p (omega arith) in omega (arith, ap (λ xs. get_or xs 0 0) e))
    (cases_eq n 0)

digits : (bs : List ℕ) (n : ℕ) → n < 2 ^ 32 → decimal n ≡ bs → AllDigits 10 bs
digits bs n h e = subst (λ (xs : List ℕ). AllDigits 10 xs) e (digits_decimal own n (omega arith))

-- each of its bytes is a digit
pub digit : (bs : List ℕ) (i : ℕ) → i < length bs → (n : ℕ) → n < 2 ^ 32 → decimal n ≡ bs → IsInRange 48 57 (get_or bs i 0)
digit bs i l n h e = digit_at bs i (digits bs n h e) l

-- its digits are worth the number
pub worth : (bs : List ℕ) (n : ℕ) → n < 2 ^ 32 → decimal n ≡ bs → digits_value 10 bs ≡ n
worth bs n h e = ap (digits_value 10) (sym e) ∙ digits_value-decimal own n (omega arith)

-- nine digits and one more are far from 2 ^ 64
pub small : (ds : List ℕ) → AllDigits 10 ds → length ds ≤ 9 → digits_value 10 ds < 1000000000
small ds d l = digits_value_short own ds 9 d l

-- digits with no zero in front are what their value is written as
pub written : (bs : List ℕ) → AllDigits 10 bs → 0 < length bs → (get_or bs 0 0 ≡ 48 → length bs ≡ 1) → digits_value 10 bs < 2 ^ 32 → decimal (digits_value 10 bs) ≡ bs
written bs d some lead few = decimal-digits_value own bs d some lead (omega arith)

-- no digit is a byte below '0', as a dot, a comma and the end of a row are
pub decimal_lacks : (stop n : ℕ) → stop < 48 → n < 2 ^ 64 → Lacks stop (decimal n)
decimal_lacks stop n low h =
    All-from_get_or (λ (b : ℕ). b ≡ stop → ⊥) (decimal n) 0 (λ i l e. let d = digit_at (decimal n) i (digits_decimal own n h) l in omega (arith, d.0))
