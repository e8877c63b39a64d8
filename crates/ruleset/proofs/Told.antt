-- What a ruleset's sheets tell: runs, labels, and the answer to a packet.
use Rattle.std.proofs.Common.{◌≡◌, ℕ, ◌^◌, ◌<◌, ◌≤◌, true, eqb, List, length, Some, None, Ok, Err, Option, Result, MatchOption, sym, refl, ap, ◌∙◌, arith, rules}
use Rattle.std.specs.Option.{IsSome}
use Rattle.std.proofs.lemmas.List.{length-take-le}
use Rattle.std.proofs.lemmas.Bool.{cond-true, eq-eqb}
use Rattle.refusal.specs.declared.refusal.Refusal.{Refusal}
use Rattle.line.specs.Line.{Line}
use Rattle.service.specs.Spans.{place_of}
use Rattle.packet.specs.Heads.{Head}
use Rattle.plan.specs.Declarations.{Declaration, names_of, network_of}
use Rattle.plan.specs.declared.plan.Plan.{Plan}
use Rattle.plan.specs.Made.{Made}
use Rattle.plan.proofs.Taken.{taken}
use Rattle.rules.specs.declared.action.Action.{Action}
use Rattle.rules.specs.Decisions.{decision}
use Rattle.rules.proofs.Firsts.{answers_decider}
use Rattle.sheets.proofs.Telling.{sheet_line, sheet_some, sheet_fits}
use Rattle.ruleset.specs.declared.ruleset.Ruleset.{Ruleset}
use Rattle.ruleset.specs.Packets.{flow_of, by, decide_answer}
use Rattle.ruleset.specs.Registers.{Register, unless, pair_cause}
use Rattle.ruleset.specs.Views.{rules_of, runs_of}
use Rattle.ruleset.proofs.Rights.{right_of}

module _ (r : Ruleset) (ready : r.ready ≡ true) (from to : ℕ) (a : from ≤ r.sheets.networks) (b : to ≤ r.sheets.networks) where
  pub runs_line : Line place_of (2 ^ 24) (decision (rules_of r) from to) (runs_of r from to)
  runs_line = sheet_line (rules_of r) from to _ ((right_of r ready).drawn from to a b)

  pub runs_some : 0 < length (runs_of r from to)
  runs_some =
      let sheet = (right_of r ready).drawn from to a b in
      let some = sheet_some (rules_of r) from to _ sheet in
      let fits = sheet_fits (rules_of r) from to _ sheet in
      omega (arith, length-take-le _ _ fits)

-- with a plan of the right number of networks decide answers the rules' policy
pub decided : (g : Register) (ds : List Declaration) (h : Head) (d : Option Action) → g.ready ≡ true → length (names_of ds) ≡ g.networks
    → d ≡ decision g.rules (flow_of ds h).from (flow_of ds h).to (flow_of ds h).service → Ok d ≡ decide_answer g (by ds) h
decided g ds h d ready same e =
    ap Ok (e ∙ sym (answers_decider g.rules (flow_of ds h))) ∙ sym (cond-true g.ready _ _ ready ∙ cond-true (eqb (length (names_of ds)) g.networks) _ _ (eq-eqb _ _ same))

-- the network of an address is one of the plan's
pub network_most : {A : Type 0} (place : A → ℕ) (size : ℕ) (ds : List Declaration) (p : Plan A) → 0 < size → Made place size ds p → (x : ℕ) → network_of ds x ≤ length (names_of ds)
network_most place size ds p some made x = (taken size _ ds some made.accepted).bounded x

-- there is no cause against a question about a pair that is there
pub pair_there : (g : Register) (from to : ℕ) → g.ready ≡ true → from ≤ g.networks → to ≤ g.networks → pair_cause g from to ≡ None
pair_there g from to ready a b = search rules

-- no check stops where there is no cause
pub not_stopped : (cause : Option Refusal) (check : Result (Unit {0}) Refusal) (e : Refusal) → check ≡ unless cause tt → check ≡ Err e → cause ≡ None → ⊥
not_stopped None check e told was none = cc
not_stopped (Some k) check e told was none = cc

-- what a look-up in some runs answers is there
pub labelled : {L : Type 0} (answer : Option L) (P : L → Type 0) (n : ℕ) → MatchOption answer (n ≡ 0) P → 0 < n → IsSome answer
labelled None P n m some = absurd (omega arith)
labelled (Some l) P n m some = refl
