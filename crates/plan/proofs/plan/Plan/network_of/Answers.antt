use Rattle.std.proofs.Common.{◌≡◌, ℕ, ◌<◌, List, length, Some, None, Option, MatchOption, sym, ap, ◌∙◌, subst, arith}
use Rattle.std.specs.Option.{ok_or}
use Rattle.refusal.specs.declared.refusal.Refusal.TheVariants.{Shut}
use Rattle.line.specs.declared.run.Run.{Run}
use Rattle.line.specs.Line.{Line}
use Rattle.line.specs.Search.{Labelled}
use Rattle.plan.specs.Declarations.{network_of}
use Rattle.plan.proofs.Makes.{open_runs}
use Rattle.plan.proofs.plan.Plan.network_of.Goals as goal

-- in a line with runs the look-up finds the label
found : {P : Type 0} (place : P → ℕ) (size : ℕ) (f : ℕ → ℕ) (runs : List (Run P ℕ)) (x : ℕ) → 0 < length runs → Line place size f runs
    → (o : Option ℕ) → MatchOption o (length runs ≡ 0) (Labelled place size runs x) → o ≡ Some (f x)
found place size f runs x some line None h = absurd (omega arith)
found place size f runs x some line (Some l) h = ap Some (h.is f line)

pub returns-clause-told : goal.returns-clause-told
returns-clause-told g c = λ ds made.
    let some = open_runs g.A.Point.place g.A.Point.size ds c.args.self.now made c.runs.result.now c.runs.ensures in
    let line = subst (λ (zs : List (Run _ ℕ)). Line g.A.Point.place g.A.Point.size (network_of ds) zs) (sym c.runs.ensures) made.line in
    let e = found g.A.Point.place g.A.Point.size (network_of ds) c.runs.result.now (g.A.Point.place c.args.address.now) some line c.look_up.result c.look_up.ensures in
    c.ok_or.ensures.value ∙ ap (λ (o : Option ℕ). ok_or o Shut) e
