-- A ruleset seen as a register, and what its rows hold.
use Rattle.std.specs.Prelude.{◌≡◌, ℕ, true, false, List, is_ok, Some, None, Result, MatchResult}
use Rattle.std.specs.Borrow.{Bor}
use Rattle.refusal.specs.declared.refusal.Refusal.{Refusal}
use Rattle.rules.specs.declared.rule.Rule.{Rule}
use Rattle.sheets.specs.Strips.{Row, Right}
use Rattle.sheets.specs.Listed.{runs_at}
use Rattle.table.specs.Held.{held}
use Rattle.ruleset.specs.declared.ruleset.Ruleset.{Ruleset}
use Rattle.ruleset.specs.Registers.{Register, Edit, outcome, left_by, pair_cause}

-- the rules of a ruleset, in their order
abbrev pub rules_of : Ruleset → List Rule
rules_of r = held r.rules

-- what the ruleset is to its user
abbrev pub register_of : Ruleset → Register
register_of r = record { ready = r.ready; networks = r.sheets.networks; depth = r.sheets.depth; rules = rules_of r }

-- a ruleset that is not shut has in each strip the line of the pair's decisions and then blank rows
pub record SheetsRight (r : Ruleset) : Type 0 where
  pub right : r.ready ≡ true → Right (rules_of r) r.sheets.networks r.sheets.depth r.sheets.rows.now

-- an edit from `before` to `after`: what it answers, what it leaves, the sheets then, nothing changed where it is refused, and the rows the same that were lent
pub record Edited (before after : Ruleset) (edit : Edit) (answer : Result (Unit {0}) Refusal) : Type 0 where
  pub answers : answer ≡ outcome (register_of before) edit
  pub becomes : register_of after ≡ left_by (register_of before) edit
  pub sheets : SheetsRight after
  pub refused : is_ok answer ≡ false → after ≡ before
  pub lent : after.sheets.rows.ghost_name ≡ before.sheets.rows.ghost_name

-- the runs listed for a pair
abbrev pub runs_of : Ruleset → ℕ → ℕ → List Row
runs_of r from to = runs_at (rules_of r) r.sheets.networks r.sheets.depth r.sheets.rows.now from to

-- what asking for the runs of a pair answers: the runs, or the first cause against it
abbrev pub ToldRuns : Ruleset → ℕ → ℕ → Result (Bor (List Row)) Refusal → Type 0
ToldRuns r from to answer =
    MatchResult answer (λ runs. (pair_cause (register_of r) from to ≡ None) × (runs.now ≡ runs_of r from to)) (λ cause. pair_cause (register_of r) from to ≡ Some cause)
