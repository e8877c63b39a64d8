-- Texts that a byte parts, and their rows and fields.
use Rattle.std.specs.Prelude.{◌≡◌, ℕ, Bool, true, cond, List, [], ◌∷◌, ◌++◌, ◌==◌, ◌≢◌}
use Rattle.std.specs.List.{AllByRecursion}

-- no byte of the text is `stop`
abbrev pub Lacks : ℕ → List ℕ → Type 0
Lacks stop text = AllByRecursion (λ b. b ≢ stop) text

-- `front` is what stands before the first `stop` of the text, and `rest` what stands after it
pub record Cut (stop : ℕ) (text front rest : List ℕ) : Type 0 where
  pub whole : text ≡ front ++ (stop ∷ rest)
  pub first : Lacks stop front

-- what stands before the first `stop`, or the whole text where it has none
abbrev pub first_part : ℕ → List ℕ → List ℕ
first_part stop [] = []
first_part stop (b ∷ text) = cond (b == stop) [] (b ∷ first_part stop text)

-- the byte in front of the first part
abbrev pub onto : ℕ → List (List ℕ) → List (List ℕ)
onto b [] = (b ∷ []) ∷ []
onto b (p ∷ ps) = (b ∷ p) ∷ ps

-- the parts of a text between its stops, where `last` is what the end of the text stands for
abbrev pub parts : ℕ → List (List ℕ) → List ℕ → List (List ℕ)
parts stop last [] = last
parts stop last (b ∷ text) = cond (b == stop) ([] ∷ parts stop last text) (onto b (parts stop last text))

-- the rows of a text: each ends with byte 10, which the last may lack
abbrev pub rows : List ℕ → List (List ℕ)
rows text = parts 10 [] text

-- the fields of a row, parted by commas
abbrev pub fields : List ℕ → List (List ℕ)
fields row = parts 44 ([] ∷ []) row

-- a row that says nothing: an empty one, or one that begins with '#'
abbrev pub passed_over : List ℕ → Bool
passed_over [] = true
passed_over (b ∷ row) = b == 35
