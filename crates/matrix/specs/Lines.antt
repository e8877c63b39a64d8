-- The line that tells a fault.
use Rattle.std.specs.Prelude.{ℕ, List, [], ◌∷◌, ◌++◌, codes, decimal}
use Rattle.refusal.specs.declared.fault.Fault.{Fault}
use Rattle.refusal.specs.Numbers.{number, layer}
use Rattle.matrix.specs.declared.fault_line.TextKind.{TextKind}
use Rattle.matrix.specs.declared.fault_line.TextKind.TheVariants.{Plan, Rules}

-- the word for a text
abbrev pub word_of : TextKind → List ℕ
word_of Plan = codes "plan"
word_of Rules = codes "rules"

-- `fault,TEXT,LAYER,CAUSE,LINE,FIELD` and byte 10
unfoldable pub fault_line : TextKind → Fault → List ℕ
fault_line kind f =
    codes "fault," ++ (word_of kind ++ ((44 ∷ decimal (layer f.cause)) ++ ((44 ∷ decimal (number f.cause)) ++ ((44 ∷ decimal f.line) ++ ((44 ∷ decimal f.field) ++ (10 ∷ []))))))
