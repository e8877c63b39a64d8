-- What a row and a text make of a plan.
use Rattle.std.specs.Prelude.{◌≡◌, ℕ, ◌≤◌, List, [], ◌∷◌, ◌++◌, length, Option, Result, MatchResult}
use Rattle.refusal.specs.declared.fault.Fault.{Fault}
use Rattle.plan.specs.declared.plan.Plan.{Plan}
use Rattle.plan.specs.Declarations.{Declaration}
use Rattle.plan.specs.Accepted.{Accepted}
use Rattle.plan.specs.Made.{Made}
use Rattle.planload.specs.Loads.{Says, Fails, Loaded, fault_in}

-- the row says a declaration that is accepted after ds, and the plan q is made by ds and it
pub record Added {A : Type 0} (text : A → List ℕ) (place : A → ℕ) (size : ℕ) (ds : List Declaration) (row : List ℕ) (q : Plan A) : Type 0 where
  pub said : Declaration
  pub says : Says text place row said
  pub accepted : Accepted size (length q.rows.now) ds said
  pub made : Made place size (ds ++ said ∷ []) q

-- the load of a text into a plan that ds made answers r, and the plan q after it is made by ds and the declarations `made`; no other declarations and no other fault are those of the text
pub record Outcome {A T : Type 0} (text : A → List ℕ) (place : A → ℕ) (size : ℕ) (ds : List Declaration) (bytes : List ℕ) (r : Result T Fault) (q : Plan A) : Type 0 where
  pub made : List Declaration
  pub loads : Loaded text place size (length q.rows.now) ds bytes made (fault_in r)
  pub plan : Made place size (ds ++ made) q
  pub only : (others : List Declaration) (end : Option Fault) → Loaded text place size (length q.rows.now) ds bytes others end → (others ≡ made) × (end ≡ fault_in r)

-- what loading the row in a line into the plan p answers, and the plan q after it, whatever declarations made p
abbrev pub AddsRow : {A T : Type 0} → (A → List ℕ) → (A → ℕ) → ℕ → Plan A → ℕ → List ℕ → Plan A → Result T Fault → Type 0
AddsRow text place size p line row q r =
    (ds : List Declaration) → Made place size ds p → MatchResult r (λ _. Added text place size ds row q) (Fails text place size (length p.rows.now) ds line row)

-- what loading a text that is not too long into the plan p answers, and the plan q after it, whatever declarations made p
abbrev pub AddsText : {A T : Type 0} → (A → List ℕ) → (A → ℕ) → ℕ → Plan A → List ℕ → Plan A → Result T Fault → Type 0
AddsText text place size p bytes q r = (ds : List Declaration) → Made place size ds p → length bytes ≤ 16384 → Outcome text place size ds bytes r q
