-- What comparing two rulesets answers.
use Rattle.std.specs.Prelude.{◌≡◌, ℕ, ◌<◌, ◌≤◌, Bool, true, false, List, [], length, Ok, Err, Decides, Result, MatchResult, ◌≢◌}
use Rattle.refusal.specs.declared.refusal.Refusal.{Refusal}
use Rattle.refusal.specs.declared.refusal.Refusal.TheVariants.{Shut}
use Rattle.line.specs.Line.{outline}
use Rattle.service.specs.Spans.{place_of}
use Rattle.plan.specs.Declarations.{Declaration, names_of}
use Rattle.plan.specs.Accepted.{Accepts}
use Rattle.ruleset.specs.declared.ruleset.Ruleset.{Ruleset}
use Rattle.ruleset.specs.Packets.{DecideAlike}
use Rattle.ruleset.specs.Views.{rules_of, runs_of}

-- two rulesets list the same runs for every pair, by place and label
abbrev pub ListAlike : Ruleset → Ruleset → Type 0
ListAlike r o = (from to : ℕ) → from ≤ r.sheets.networks → to ≤ r.sheets.networks → outline place_of (runs_of r from to) ≡ outline place_of (runs_of o from to)

-- the answer is yes or no, and yes exactly where P holds
abbrev pub Tells : Result Bool Refusal → Type 0 → Type 0
Tells answer P = MatchResult answer (λ b. Decides b P) (λ _. ⊥)

-- both are not shut and have the same number of networks
pub record Comparable (r o : Ruleset) : Type 0 where
  pub ready : r.ready ≡ true
  pub ready_too : o.ready ≡ true
  pub networks : r.sheets.networks ≡ o.sheets.networks

-- what comparing answers: whether they list the same runs, which is whether they decide every packet alike, the networks going by any declarations that a plan accepts and that name so many networks
pub record Compares (r o : Ruleset) (answer : Result Bool Refusal) : Type 0 where
  pub shut : r.ready ≡ false → answer ≡ Err Shut
  pub shut_too : o.ready ≡ false → answer ≡ Err Shut
  pub other_pairs : r.ready ≡ true → o.ready ≡ true → (r.sheets.networks ≢ o.sheets.networks) → answer ≡ Ok false
  pub runs : Comparable r o → Tells answer (ListAlike r o)
  pub packets : Comparable r o → (size rows : ℕ) (ds : List Declaration) → 0 < size → Accepts size rows [] ds
      → length (names_of ds) ≡ r.sheets.networks → Tells answer (DecideAlike size ds (rules_of r) (rules_of o))
