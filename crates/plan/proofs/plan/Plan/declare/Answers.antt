use Rattle.plan.specs.Declarations.{Declaration}
use Rattle.plan.proofs.Makes.{made_next, accepted}
use Rattle.plan.proofs.plan.Plan.declare.Goals as goal

pub returns-clause-declared : goal.returns-clause-declared
returns-clause-declared g c = λ ds made.
    let place = g.A.Point.place in
    let size = g.A.Point.size in
    let d : Declaration = record { name = c.args.name.now; low = place c.args.low; high = place c.args.high } in
    let safe = c.in_ok-edit.ensures.safe in
    let entered = c.enter.ensures.entered in
    let j = c.in_ok-edit.ensures.judged ds made in
    let top = g.met.A.Point.inside c.args.high in
    record {
      number = j.number;
      accepted = accepted place size ds d c.args.self.now c.enter.new.self c.in_ok-edit.edit made j entered safe.room top;
      made = made_next place size ds d c.args.self.now c.enter.new.self c.in_ok-edit.edit made j entered safe.room top;
    }
