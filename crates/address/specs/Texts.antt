-- The texts of addresses.
use Rattle.std.specs.Prelude.{ℕ, ◌+◌, ◌/◌, ◌%◌, ◌^◌, cond, List, [], ◌∷◌, ◌++◌, decimal, nat_lt}

-- four numbers in decimal digits, parted by dots
abbrev pub dotted : ℕ → ℕ → ℕ → ℕ → List ℕ
dotted a b c d = decimal a ++ (46 ∷ (decimal b ++ (46 ∷ (decimal c ++ (46 ∷ decimal d)))))

-- the text of an IPv4 address: its four bytes, the highest first
abbrev pub text4 : ℕ → List ℕ
text4 v = dotted (v / 2 ^ 24) (v / 2 ^ 16 % 256) (v / 2 ^ 8 % 256) (v % 256)

-- a hexadecimal digit, in lower case
abbrev pub digit : ℕ → ℕ
digit d = cond (nat_lt d 10) (48 + d) (87 + d)

-- a group: 16 bits as four hexadecimal digits
abbrev pub group : ℕ → List ℕ
group g = digit (g / 4096) ∷ (digit (g / 256 % 16) ∷ (digit (g / 16 % 16) ∷ (digit (g % 16) ∷ [])))

-- a number as two halves, the lower of so many bits, parted by a colon
abbrev pub halves : (ℕ → List ℕ) → ℕ → ℕ → List ℕ
halves half bits n = half (n / 2 ^ bits) ++ (58 ∷ half (n % 2 ^ bits))

-- 32 bits as two groups
abbrev pub groups2 : ℕ → List ℕ
groups2 n = halves group 16 n

-- 64 bits as four groups
abbrev pub groups4 : ℕ → List ℕ
groups4 n = halves groups2 32 n

-- the text of an IPv6 address: its eight groups, the highest first
abbrev pub text6 : ℕ → ℕ → List ℕ
text6 high low = groups4 high ++ (58 ∷ groups4 low)
