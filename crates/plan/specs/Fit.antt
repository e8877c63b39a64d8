-- Why a range of a line cannot be given a label. A place is free where its label is 0.
use Rattle.std.specs.Prelude.{◌≡◌, ℕ, ◌<◌, Bool, List, MatchBool, Result, MatchResult, nat_eq}
use Rattle.std.specs.List.{HoldsAt}
use Rattle.line.specs.declared.run.Run.{Run}
use Rattle.line.specs.Line.{Line, over, runs_needed}
use Rattle.splice.specs.declared.change.Change.{Change}
use Rattle.splice.specs.Changes.{Spot, changed}
use Rattle.refusal.specs.declared.refusal.Refusal.{Refusal}
use Rattle.refusal.specs.declared.refusal.Refusal.TheVariants.{RangeTaken, PlanFull, NothingElsewhere}
use Rattle.plan.specs.Accepted.{Free, Meets, Fills, Remains}

-- the first cause against the label l from low to high of f, in so many rows
pub data Unfit (size : ℕ) (f : ℕ → ℕ) (low high l rows : ℕ) : Refusal → Type 0 where
  meets : Meets f low high → Unfit size f low high l rows RangeTaken
  fills : Free f low high → Fills size f low high → Unfit size f low high l rows NothingElsewhere
  full : Free f low high → Remains size f low high → rows < runs_needed nat_eq size (over f low high l) → Unfit size f low high l rows PlanFull

-- what is told of a range that the free run at `at` holds: whether no other place of the line is free
abbrev pub TellsFill : {P : Type 0} → (P → ℕ) → ℕ → List (Run P ℕ) → ℕ → ℕ → ℕ → Bool → Type 0
TellsFill place size runs at low high r =
    (f : ℕ → ℕ) (l : ℕ) → Spot place size f runs at low high l → HoldsAt (λ w. w.label ≡ 0) runs at → MatchBool r (Fills size f low high) (Remains size f low high)

-- what fitting the label l from low to high into a line answers: the change that makes the new line, or the first cause against it
abbrev pub Fitted : {P : Type 0} → (P → ℕ) → ℕ → List (Run P ℕ) → ℕ → ℕ → ℕ → ℕ → Result (Change (Run P ℕ)) Refusal → Type 0
Fitted place size runs rows low high l r =
    (f : ℕ → ℕ) → Line place size f runs
    → MatchResult r (λ c. Free f low high × Remains size f low high × Line place size (over f low high l) (changed c runs)) (Unfit size f low high l rows)
