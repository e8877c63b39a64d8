use Rattle.std.proofs.Common.{ℕ, List, sym, refl, ap, ◌∙◌, subst, arith}
use Rattle.std.proofs.lemmas.Result.{err_from_is_err_and}
use Rattle.line.specs.declared.run.Run.{Run}
use Rattle.line.specs.Line.{Line, over}
use Rattle.splice.specs.Changes.{changed}
use Rattle.names.specs.Names.{number_in}
use Rattle.names.specs.Texts.{texts}
use Rattle.plan.specs.Declarations.{Declaration, network_of}
use Rattle.plan.proofs.Snoc.{number_positive}
use Rattle.plan.proofs.Makes.{refuses}
use Rattle.plan.proofs.Checks.{cause_refuses, none_sane}
use Rattle.plan.proofs.plan.Plan.judge.Goals as goal

pub returns-in_err-check_sane-clause-judged : goal.returns-in_err-check_sane-clause-judged
returns-in_err-check_sane-clause-judged g c = λ ds made.
    let place = g.A.Point.place in
    let is = c.number-number.ensures.number ∙ ap (λ (ns : List (List ℕ)). number_in ns c.args.name.now) made.names in
    let d : Declaration = record { name = c.args.name.now; low = place c.args.low; high = place c.args.high } in
    let p = err_from_is_err_and c.from_residual.result c.from_residual.ensures.1 in
    rw (p.1, p.2) (cause_refuses ds d c.number-number.result is g.A.Point.size _ _ _ _ _ refl refl refl c.in_err-check_sane.ensures)

pub fit-requires-clause-labels : goal.fit-requires-clause-labels
fit-requires-clause-labels g c = omega (arith, c.number-number.ensures.number, number_positive (texts c.args.self.now.names) c.args.name.now)

pub returns-in_err-change-clause-judged : goal.returns-in_err-change-clause-judged
returns-in_err-change-clause-judged g c = λ ds made.
    let place = g.A.Point.place in
    let is = c.number-number.ensures.number ∙ ap (λ (ns : List (List ℕ)). number_in ns c.args.name.now) made.names in
    let d : Declaration = record { name = c.args.name.now; low = place c.args.low; high = place c.args.high } in
    let line = subst (λ (zs : List (Run _ ℕ)). Line place g.A.Point.size (network_of ds) zs) (sym c.runs.ensures) made.line in
    let p = err_from_is_err_and c.from_residual-in_err-change.result c.from_residual-in_err-change.ensures.1 in
    rw (p.1, p.2) (refuses g.A.Point.size _ ds d c.number-number.result is (none_sane ds d c.number-number.result is _ _ _ refl refl refl c.in_ok-check_sane.ensures)
    _ (c.in_err-change.ensures.judged (network_of ds) line))

pub returns-clause-judged : goal.returns-clause-judged
returns-clause-judged g c = λ ds made.
    let place = g.A.Point.place in
    let is = c.number-number.ensures.number ∙ ap (λ (ns : List (List ℕ)). number_in ns c.args.name.now) made.names in
    let d : Declaration = record { name = c.args.name.now; low = place c.args.low; high = place c.args.high } in
    let line = subst (λ (zs : List (Run _ ℕ)). Line place g.A.Point.size (network_of ds) zs) (sym c.runs.ensures) made.line in
    let j = c.in_ok-change.ensures.judged (network_of ds) line in
    record {
      sane = none_sane ds d c.number-number.result is _ _ _ refl refl refl c.in_ok-check_sane.ensures;
      number = is;
      free = j.0;
      remains = j.1;
      line = subst (λ (zs : List (Run _ ℕ)). Line place g.A.Point.size (over (network_of ds) (place c.args.low) (place c.args.high) c.number-number.result) (changed c.in_ok-change.change zs)) c.runs.ensures j.2;
    }
