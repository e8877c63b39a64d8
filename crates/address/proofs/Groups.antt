-- The texts that groups and halves make.
use Rattle.std.specs.Prelude.{◌≡◌, ℕ, ◌+◌, ◌*◌, ◌/◌, ◌%◌, ◌^◌, ◌<◌, List, [], ◌∷◌, ◌++◌, length, take, drop, ◌≢◌, slice_index, refl}
use Rattle.std.proofs.Common.{◌∙◌, ap, sym, arith}
use Rattle.std.proofs.lemmas.List.{take-append-drop, drop_more, take_all, length-drop}
use Rattle.std.proofs.lemmas.Nat.{div-mul-add, mod-mul-add, mul-add-lt, pow_pos}
use Rattle.std.proofs.Math.Nat.{mod-lt, div-lt_iff_lt-mul}
use Rattle.address.specs.Texts.{digit, group, halves, groups2, groups4}
use Rattle.address.specs.Groups.{Halved}

-- the halves make the text
pub joined : (k : ℕ) (high low bytes : List ℕ) → Halved k high low bytes → high ++ (58 ∷ low) ≡ bytes
joined k high low bytes h =
    let lt : k < length bytes = omega (arith, h.long) in
    let all : take k (drop (k + 1) bytes) ≡ drop (k + 1) bytes = take_all k (drop (k + 1) bytes) (omega (arith, length-drop (k + 1) bytes, h.long)) in
    ap (λ (q : List ℕ). q ++ (58 ∷ low)) (sym h.front)
    ∙ (ap (λ (q : List ℕ). take k bytes ++ (58 ∷ q)) (sym h.rest ∙ all)
    ∙ (ap (λ (b : ℕ). take k bytes ++ (b ∷ drop (k + 1) bytes)) (sym h.colon) ∙ (ap (λ (q : List ℕ). take k bytes ++ q) (sym (drop_more bytes k 0 lt)) ∙ take-append-drop k bytes)))

four : (bytes : List ℕ) → length bytes ≡ 4 → slice_index bytes 0 ∷ (slice_index bytes 1 ∷ (slice_index bytes 2 ∷ (slice_index bytes 3 ∷ []))) ≡ bytes
four [] h = absurd (omega arith)
four (x ∷ []) h = absurd (omega arith)
four (x ∷ (y ∷ [])) h = absurd (omega arith)
four (x ∷ (y ∷ (z ∷ []))) h = absurd (omega arith)
four (x ∷ (y ∷ (z ∷ (w ∷ [])))) h = refl
four (x ∷ (y ∷ (z ∷ (w ∷ (v ∷ q))))) h = absurd (omega arith)

each : (x y z w x' y' z' w' : ℕ) → x ≡ x' → y ≡ y' → z ≡ z' → w ≡ w' → ◌≡◌ {A = List ℕ} (x ∷ (y ∷ (z ∷ (w ∷ [])))) (x' ∷ (y' ∷ (z' ∷ (w' ∷ []))))
each x y z w x' y' z' w' a b c d = cc

-- the number that four digits make
pub group_of : (a b c d : ℕ) (bytes : List ℕ) → a < 16 → b < 16 → c < 16 → d < 16 → length bytes ≡ 4
    → digit a ≡ slice_index bytes 0 → digit b ≡ slice_index bytes 1 → digit c ≡ slice_index bytes 2 → digit d ≡ slice_index bytes 3 → group (a * 4096 + b * 256 + c * 16 + d) ≡ bytes
group_of a b c d bytes ha hb hc hd long ea eb ec ed =
    let n : ℕ = a * 4096 + b * 256 + c * 16 + d in
    let qa : n / 4096 ≡ a = omega arith in
    let qb : n / 256 % 16 ≡ b = omega arith in
    let qc : n / 16 % 16 ≡ c = omega arith in
    let qd : n % 16 ≡ d = omega arith in
    each _ _ _ _ _ _ _ _ (ap digit qa ∙ ea) (ap digit qb ∙ eb) (ap digit qc ∙ ec) (ap digit qd ∙ ed) ∙ four bytes long

-- the number that the halves of a text make
pub read_of : (half : ℕ → List ℕ) (bits high low a b : ℕ) (bytes : List ℕ) → high < 2 ^ bits → low < 2 ^ bits → a ≡ high → b ≡ low → half high ++ (58 ∷ half low) ≡ bytes
    → (a * 2 ^ bits + b < 2 ^ bits * 2 ^ bits) × (halves half bits (a * 2 ^ bits + b) ≡ bytes)
read_of half bits high low a b bytes hh hl ea eb e =
    let w : ℕ = 2 ^ bits in
    let n : a * w + b ≡ high * w + low = ap (λ (x : ℕ). x * w + b) ea ∙ ap (λ (x : ℕ). high * w + x) eb in
    let front : half ((high * w + low) / w) ≡ half high = ap half (div-mul-add high w low hl) in
    let back : half ((high * w + low) % w) ≡ half low = ap half (mod-mul-add high w low hl) in (
      rw n (mul-add-lt high w low w hh hl),
      ap (halves half bits) n ∙ (ap (λ (q : List ℕ). q ++ (58 ∷ half ((high * w + low) % w))) front ∙ (ap (λ (q : List ℕ). half high ++ (58 ∷ q)) back ∙ e)),
    )

-- where no halves make the text, no number does
pub unread : (half : ℕ → List ℕ) (bits n : ℕ) (bytes : List ℕ) → ((high low : ℕ) → high < 2 ^ bits → low < 2 ^ bits → half high ++ (58 ∷ half low) ≢ bytes)
    → n < 2 ^ bits * 2 ^ bits → halves half bits n ≢ bytes
unread half bits n bytes none h e = none (n / 2 ^ bits) (n % 2 ^ bits) ((div-lt_iff_lt-mul (pow_pos bits)).1 h) (mod-lt n (pow_pos bits)) e

-- the number that the halves of so many bytes make
pub halves_of : (half : ℕ → List ℕ) (bits k high low : ℕ) (bytes : List ℕ) → high < 2 ^ bits → low < 2 ^ bits → Halved k (half high) (half low) bytes → halves half bits (high * 2 ^ bits + low) ≡ bytes
halves_of half bits k high low bytes hh hl h = (read_of half bits high low high low bytes hh hl refl refl (joined k (half high) (half low) bytes h)).1

-- the number that two groups make
pub two_of : (high low : ℕ) (bytes : List ℕ) → high < 2 ^ 16 → low < 2 ^ 16 → Halved 4 (group high) (group low) bytes → groups2 (high * 65536 + low) ≡ bytes
two_of high low bytes hh hl h = halves_of group 16 4 high low bytes hh hl h

-- the number that four groups make
pub four_of : (high low : ℕ) (bytes : List ℕ) → high < 2 ^ 32 → low < 2 ^ 32 → Halved 9 (groups2 high) (groups2 low) bytes → groups4 (high * 4294967296 + low) ≡ bytes
four_of high low bytes hh hl h = halves_of groups2 32 9 high low bytes hh hl h
