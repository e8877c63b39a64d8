-- Names of networks, and the numbers that they have in a list of names.
use Rattle.std.specs.Prelude.{◌≡◌, ℕ, ◌+◌, ◌-◌, ◌≤◌, Bool, true, cond, not, ◌&&◌, List, [], ◌∷◌, ◌++◌, length, Some, None, codes, Option, ◌==◌, nat_le, slice_index_or}
use Rattle.std.specs.List.{list_all}
use Rattle.std.specs.Str.{bytes_eq}

-- a byte of a name: a to z, 0 to 9 or a hyphen
abbrev pub letter : ℕ → Bool
letter b = cond (nat_le 97 b && nat_le b 122) true (cond (nat_le 48 b && nat_le b 57) true (b == 45))

-- every byte is one
abbrev pub letters : List ℕ → Bool
letters text = list_all letter text

-- a name: 1 to 12 such bytes, and neither of the words `any` and `elsewhere`
abbrev pub well_formed : List ℕ → Bool
well_formed text = nat_le 1 (length text) && nat_le (length text) 12 && letters text && not (bytes_eq text (codes "any")) && not (bytes_eq text (codes "elsewhere"))

-- the number that a name has among the names, counted from 1; a new name would get the next number
abbrev pub number_in : List (List ℕ) → List ℕ → ℕ
number_in [] name = 1
number_in (n ∷ names) name = cond (bytes_eq n name) 1 (number_in names name + 1)

-- the number of a name that is among the names
abbrev pub declared : List (List ℕ) → List ℕ → Option ℕ
declared names name = cond (nat_le (number_in names name) (length names)) (Some (number_in names name)) None

-- the text is the name with this number
abbrev pub Numbered : List (List ℕ) → ℕ → List ℕ → Type 0
Numbered names number text = (1 ≤ number) × (number ≤ length names) × (text ≡ slice_index_or names (number - 1) [])

-- the names, with this one at the end where they lack it
abbrev pub with_name : List (List ℕ) → List ℕ → List (List ℕ)
with_name names name = cond (nat_le (number_in names name) (length names)) names (names ++ name ∷ [])
