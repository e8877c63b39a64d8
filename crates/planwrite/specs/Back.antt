-- What the text of a plan says when it is read back. `text` gives the text of an address, `place` its place among `size`; the plan has so many rows.
use Rattle.std.specs.Prelude.{◌≡◌, ℕ, ◌≤◌, List, [], length, None}
use Rattle.line.specs.declared.run.Run.{Run}
use Rattle.line.specs.Line.{Line, outline}
use Rattle.plan.specs.Declarations.{Declaration, names_of, network_of}
use Rattle.plan.specs.declared.plan.Plan.{Plan}
use Rattle.plan.specs.Made.{Made}
use Rattle.planload.specs.Loads.{Loaded}
use Rattle.planwrite.specs.Written.{plan_text, plan_said}
use Rattle.planwrite.specs.Same.{Same}
use Rattle.planwrite.specs.Writes.{runs_of}

-- the text of the plan that ds made, with these runs: it loads into a new plan without a fault, what it declares says the same plan, and the line of that has the same runs
pub record ReadsBack {A : Type 0} (text : A → List ℕ) (place : A → ℕ) (size most : ℕ) (ds : List Declaration) (runs : List (Run A ℕ)) : Type 0 where
  pub loaded : Loaded text place size most [] (plan_text text (names_of ds) runs) (plan_said place (names_of ds) runs) None
  pub same : Same size ds (plan_said place (names_of ds) runs)
  pub outlined : (others : List (Run A ℕ)) → Line place size (network_of (plan_said place (names_of ds) runs)) others → outline place others ≡ outline place runs

-- the text of the plan p reads back, whatever declarations made it, unless it is too long for a load
abbrev pub Backs : {A : Type 0} → (A → List ℕ) → (A → ℕ) → ℕ → Plan A → Type 0
Backs text place size p =
    (ds : List Declaration) → Made place size ds p → length (plan_text text (names_of ds) (runs_of p)) ≤ 16384 → ReadsBack text place size (length p.rows.now) ds (runs_of p)
