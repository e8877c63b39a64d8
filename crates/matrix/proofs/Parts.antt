-- The parts of a fault line.
use Rattle.std.proofs.Common.{ℕ, List, [], ◌∷◌, ◌++◌, codes, decimal}
use Rattle.refusal.specs.declared.fault.Fault.{Fault}
use Rattle.refusal.specs.Numbers.{number, layer}
use Rattle.matrix.specs.declared.fault_line.TextKind.{TextKind}
use Rattle.matrix.specs.Lines.{word_of, fault_line}

abbrev in_order : TextKind → Fault → List ℕ
in_order kind f = codes "fault," ++ (word_of kind ++ ((44 ∷ decimal (layer f.cause)) ++ ((44 ∷ decimal (number f.cause)) ++ ((44 ∷ decimal f.line) ++ ((44 ∷ decimal f.field) ++ (10 ∷ []))))))

-- what holds of the fault line holds of its parts in their order
pub in_parts : (P : List ℕ → Type 0) (kind : TextKind) (f : Fault) → P (fault_line kind f) → P (in_order kind f)
unfolding fault_line
in_parts P kind f p = p

-- and the other way
pub as_line : (P : List ℕ → Type 0) (kind : TextKind) (f : Fault) → P (in_order kind f) → P (fault_line kind f)
unfolding fault_line
as_line P kind f p = p
