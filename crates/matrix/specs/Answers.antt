-- What a program answers to a plan text. `text` gives the text of an address, `place` its place among `size`; the plan has so many rows.
use Rattle.std.specs.Prelude.{◌≡◌, ℕ, ◌<◌, ◌≤◌, true, false, List, [], length, Some, None, Option, Result, MatchResult}
use Rattle.refusal.specs.declared.refusal.Refusal.{Refusal}
use Rattle.refusal.specs.declared.refusal.Refusal.TheVariants as cause
use Rattle.refusal.specs.declared.fault.Fault.{Fault}
use Rattle.refusal.specs.Faults.{fault}
use Rattle.line.specs.declared.run.Run.{Run}
use Rattle.line.specs.Line.{Line}
use Rattle.plan.specs.Declarations.{Declaration, names_of, network_of}
use Rattle.plan.specs.Made.{size_fits}
use Rattle.planload.specs.Loads.{Loaded}
use Rattle.planwrite.specs.Written.{plan_text}
use Rattle.planwrite.specs.Writes.{Wrote, LacksRoom}
use Rattle.matrix.specs.declared.answer.Answer.{Answer}
use Rattle.matrix.specs.declared.answer.Answer.TheVariants as answer
use Rattle.matrix.specs.declared.fault_line.TextKind.TheVariants as kind
use Rattle.matrix.specs.Lines.{fault_line}

-- how the load of a text into a new plan ends: what it declares, and its fault, if any
pub data Ends {A : Type 0} (text : A → List ℕ) (place : A → ℕ) (size rows : ℕ) (bytes : List ℕ) : List Declaration → Option Fault → Type 0 where
  shut : size_fits rows ≡ false → Ends text place size rows bytes [] (Some (fault cause.Shut 0 0))
  long : size_fits rows ≡ true → 16384 < length bytes → Ends text place size rows bytes [] (Some (fault cause.TextTooLong 0 0))
  read : (made : List Declaration) (end : Option Fault) → size_fits rows ≡ true → length bytes ≤ 16384 → Loaded text place size rows [] bytes made end → Ends text place size rows bytes made end

-- the answer is of this kind, and the buffer begins with these bytes; where it is too short for them, it is as it was
abbrev pub Prints : (ℕ → Answer) → List ℕ → List ℕ → List ℕ → Result Answer Refusal → Type 0
Prints of bytes before after r = MatchResult r (λ a. (n : ℕ) × (a ≡ of n) × Wrote bytes before after n) (LacksRoom bytes before after)

-- the text of the plan that was made, or the fault line
abbrev pub Printed : {A : Type 0} → (A → List ℕ) → (A → ℕ) → ℕ → List Declaration → Option Fault → List ℕ → List ℕ → Result Answer Refusal → Type 0
Printed {A} text place size made None before after r =
    (runs : List (Run A ℕ)) × Line place size (network_of made) runs × Prints answer.Plan (plan_text text (names_of made) runs) before after r
Printed text place size made (Some f) before after r = Prints answer.Fault (fault_line kind.Plan f) before after r

-- a program's answer to a plan text
pub record Answered {A : Type 0} (text : A → List ℕ) (place : A → ℕ) (size rows : ℕ) (bytes before after : List ℕ) (r : Result Answer Refusal) : Type 0 where
  pub made : List Declaration
  pub end : Option Fault
  pub ends : Ends text place size rows bytes made end
  pub printed : Printed text place size made end before after r
