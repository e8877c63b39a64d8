-- The rows of the file of packets.
use Rattle.std.specs.Prelude.{ℕ, ◌/◌, ◌%◌, List, [], ◌∷◌, ◌++◌}
use Rattle.address.specs.Texts.{digit}
use Rattle.packets.specs.declared.row.Kind.{Kind}
use Rattle.packets.specs.declared.row.Kind.TheVariants.{Four, Six}

-- bytes in hexadecimal digits, two to a byte
abbrev pub hexed : List ℕ → List ℕ
hexed [] = []
hexed (b ∷ bytes) = digit (b / 16) ∷ (digit (b % 16) ∷ hexed bytes)

-- the digit of a kind
abbrev pub mark : Kind → ℕ
mark Four = 52
mark Six = 54

-- a row: a kind, bytes in hexadecimal digits, and what is told of them
abbrev pub row_text : Kind → List ℕ → List ℕ → List ℕ
row_text kind digits told = mark kind ∷ (44 ∷ (digits ++ (44 ∷ told)))
