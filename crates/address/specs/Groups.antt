-- Hexadecimal groups and their halves, and the laws of IPv6 texts.
use Rattle.std.specs.Prelude.{◌≡◌, ℕ, ◌+◌, ◌*◌, ◌/◌, ◌%◌, ◌^◌, ◌<◌, ◌≤◌, List, ◌∷◌, ◌++◌, length, take, drop, ◌≢◌, slice_index_or, refl}
use Rattle.std.proofs.Common.{◌∙◌, ap, sym, subst, arith}
use Rattle.std.proofs.ByRecursion.{All-append}
use Rattle.std.proofs.lemmas.List.{length-append, take_at, drop_at, get_or_at, take_all, drop-drop}
use Rattle.std.proofs.lemmas.Bool.Decides.{nat_tests}
use Rattle.std.proofs.lemmas.Nat.{div-add-mod', pow_pos}
use Rattle.std.proofs.Math.Nat.{mod-lt, div-lt_iff_lt-mul}
use Rattle.text.specs.Parts.{Lacks}
use Rattle.address.specs.Texts.{digit, group, halves, groups2, groups4, text6}

-- a digit tells its value
pub digit_same : (d e : ℕ) → d < 16 → e < 16 → digit d ≡ digit e → d ≡ e
digit_same d e hd he h = grind (arith, nat_tests)

-- no digit is below '0'
pub digit_high : (d : ℕ) → 48 ≤ digit d
digit_high d = grind (arith, nat_tests)

-- a group tells its number
pub group_same : (g h : ℕ) → g < 2 ^ 16 → h < 2 ^ 16 → group g ≡ group h → g ≡ h
group_same g h lg lh e =
    let a = digit_same (g / 4096) (h / 4096) (omega arith) (omega arith) (cc) in
    let b = digit_same (g / 256 % 16) (h / 256 % 16) (omega arith) (omega arith) (cc) in
    let c = digit_same (g / 16 % 16) (h / 16 % 16) (omega arith) (omega arith) (cc) in
    let d = digit_same (g % 16) (h % 16) (omega arith) (omega arith) (cc) in
    omega arith

-- what a text of two halves of k bytes is
pub record Halved (k : ℕ) (high low bytes : List ℕ) : Type 0 where
  pub long : length bytes ≡ k + (k + 1)
  pub front : take k bytes ≡ high
  pub colon : slice_index_or bytes k 0 ≡ 58
  pub rest : take k (drop (k + 1) bytes) ≡ low

-- a text is told by its halves
pub halved : (k : ℕ) (high low bytes : List ℕ) → length high ≡ k → length low ≡ k → high ++ (58 ∷ low) ≡ bytes → Halved k high low bytes
halved k high low bytes lh ll e = subst (λ (q : List ℕ). Halved k high low q) e (record {
  long = length-append high (58 ∷ low) ∙ omega arith;
  front = take_at high (58 ∷ low) k lh;
  colon = get_or_at high 58 low 0 k lh;
  rest = ap (take k) (sym (drop_drop_one) ∙ ap (drop 1) (drop_at high (58 ∷ low) k lh)) ∙ take_all k low (omega arith);
})
  where
    drop_drop_one : drop 1 (drop k (high ++ (58 ∷ low))) ≡ drop (k + 1) (high ++ (58 ∷ low))
    drop_drop_one = drop-drop 1 k (high ++ (58 ∷ low))

-- an IPv6 text has 39 bytes
pub long6 : (h l : ℕ) → length (text6 h l) ≡ 39
long6 h l = refl

-- so it is short
pub short6 : (h l : ℕ) → length (text6 h l) ≤ 39
short6 h l = omega (arith, long6 h l)

high_lacks : (stop d : ℕ) → stop < 48 → digit d ≢ stop
high_lacks stop d low e = let h = digit_high d in omega arith

-- a group has no byte below '0'
pub plain1 : (stop g : ℕ) → stop < 48 → Lacks stop (group g)
plain1 stop g low = (high_lacks stop (g / 4096) low, (high_lacks stop (g / 256 % 16) low, (high_lacks stop (g / 16 % 16) low, (high_lacks stop (g % 16) low, tt))))

plain_halves : (stop : ℕ) (a b : List ℕ) → stop < 48 → Lacks stop a → Lacks stop b → Lacks stop (a ++ (58 ∷ b))
plain_halves stop a b low la lb = All-append (λ (x : ℕ). x ≢ stop) a (58 ∷ b) la ((λ e. omega arith), lb)

-- a number as two halves has no byte below '0' where a half has none
pub lacks_halves : (half : ℕ → List ℕ) (bits stop n : ℕ) → stop < 48 → ((m : ℕ) → Lacks stop (half m)) → Lacks stop (halves half bits n)
lacks_halves half bits stop n low l = plain_halves stop (half (n / 2 ^ bits)) (half (n % 2 ^ bits)) low (l (n / 2 ^ bits)) (l (n % 2 ^ bits))

-- two groups have no byte below '0'
pub plain2 : (stop n : ℕ) → stop < 48 → Lacks stop (groups2 n)
plain2 stop n low = lacks_halves group 16 stop n low (λ m. plain1 stop m low)

-- four groups have no byte below '0'
pub plain4 : (stop n : ℕ) → stop < 48 → Lacks stop (groups4 n)
plain4 stop n low = lacks_halves groups2 32 stop n low (λ m. plain2 stop m low)

-- an IPv6 text has no byte below '0'
pub plain6 : (stop h l : ℕ) → stop < 48 → Lacks stop (text6 h l)
plain6 stop h l low = plain_halves stop (groups4 h) (groups4 l) low (plain4 stop h low) (plain4 stop l low)

-- it has no comma and no end of a row
pub unparted6 : (h l : ℕ) → Lacks 44 (text6 h l) × Lacks 10 (text6 h l)
unparted6 h l = (plain6 44 h l (omega arith), plain6 10 h l (omega arith))

-- two texts of equal halves are equal by halves
both : (k : ℕ) (a b x y : List ℕ) → length a ≡ k → length b ≡ k → length x ≡ k → length y ≡ k → a ++ (58 ∷ b) ≡ x ++ (58 ∷ y) → (a ≡ x) × (b ≡ y)
both k a b x y la lb lx ly e =
    let p = halved k a b _ la lb e in
    let q = halved k x y _ lx ly refl in
    (sym p.front ∙ q.front, sym p.rest ∙ q.rest)

-- a number as two halves of k bytes is told by them where each half tells its own
pub same_halves : (half : ℕ → List ℕ) (bits k m n : ℕ) → ((x : ℕ) → length (half x) ≡ k) → ((x y : ℕ) → x < 2 ^ bits → y < 2 ^ bits → half x ≡ half y → x ≡ y)
    → m < 2 ^ bits * 2 ^ bits → n < 2 ^ bits * 2 ^ bits → halves half bits m ≡ halves half bits n → m ≡ n
same_halves half bits k m n long tells hm hn e =
    let w : ℕ = 2 ^ bits in
    let some : 0 < w = pow_pos bits in
    let p = both k (half (m / w)) (half (m % w)) (half (n / w)) (half (n % w)) (long _) (long _) (long _) (long _) e in
    let a = tells (m / w) (n / w) ((div-lt_iff_lt-mul some).1 hm) ((div-lt_iff_lt-mul some).1 hn) p.0 in
    let b = tells (m % w) (n % w) (mod-lt m some) (mod-lt n some) p.1 in
    sym (div-add-mod' m w) ∙ (ap (λ (x : ℕ). x * w + m % w) a ∙ (ap (λ (x : ℕ). n / w * w + x) b ∙ div-add-mod' n w))

-- two groups tell their number
pub same2 : (m n : ℕ) → m < 2 ^ 32 → n < 2 ^ 32 → groups2 m ≡ groups2 n → m ≡ n
same2 m n hm hn e = same_halves group 16 4 m n (λ _. refl) group_same hm hn e

-- four groups tell their number
pub same4 : (m n : ℕ) → m < 2 ^ 64 → n < 2 ^ 64 → groups4 m ≡ groups4 n → m ≡ n
same4 m n hm hn e = same_halves groups2 32 9 m n (λ _. refl) same2 hm hn e

-- an IPv6 text tells its number
pub same8 : (m n : ℕ) → m < 2 ^ 128 → n < 2 ^ 128 → text6 (m / 2 ^ 64) (m % 2 ^ 64) ≡ text6 (n / 2 ^ 64) (n % 2 ^ 64) → m ≡ n
same8 m n hm hn e = same_halves groups4 64 19 m n (λ _. refl) same4 hm hn e

-- an IPv6 text tells both halves of its address
pub same6 : (h l h' l' : ℕ) → h < 2 ^ 64 → l < 2 ^ 64 → h' < 2 ^ 64 → l' < 2 ^ 64 → text6 h l ≡ text6 h' l' → (h ≡ h') × (l ≡ l')
same6 h l h' l' a b c d e =
    let p = both 19 (groups4 h) (groups4 l) (groups4 h') (groups4 l') refl refl refl refl e in
    (same4 h h' a c p.0, same4 l l' b d p.1)

-- an IPv6 text tells the place of its address
pub tells6 : (h l h' l' : ℕ) → h < 2 ^ 64 → l < 2 ^ 64 → h' < 2 ^ 64 → l' < 2 ^ 64 → text6 h l ≡ text6 h' l' → h * 2 ^ 64 + l ≡ h' * 2 ^ 64 + l'
tells6 h l h' l' a b c d e =
    let s = same6 h l h' l' a b c d e in
    ap (λ (x : ℕ). x * 2 ^ 64 + l) s.0 ∙ ap (λ (x : ℕ). h' * 2 ^ 64 + x) s.1

-- the place of an IPv6 address has one text
pub told6 : (h l h' l' : ℕ) → l < 2 ^ 64 → l' < 2 ^ 64 → h * 2 ^ 64 + l ≡ h' * 2 ^ 64 + l' → text6 h l ≡ text6 h' l'
told6 h l h' l' b d e =
    let high : h ≡ h' = omega arith in
    let low : l ≡ l' = omega arith in
    ap (λ (x : ℕ). text6 x l) high ∙ ap (λ (x : ℕ). text6 h' x) low

-- an IPv6 address stands below 2 ^ 128
pub inside6 : (h l : ℕ) → h < 2 ^ 64 → l < 2 ^ 64 → h * 2 ^ 64 + l < 2 ^ 128
inside6 h l a b = omega arith
