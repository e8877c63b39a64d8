-- The load ends with a plan, which is written, or with a fault, whose line is.
use Rattle.std.proofs.Common.{length, Some, None, refl}
use Rattle.planwrite.specs.Writes.{runs_of}
use Rattle.matrix.specs.declared.answer.Answer.TheVariants as answer
use Rattle.matrix.proofs.Ending.{ended}
use Rattle.matrix.proofs.Printing.{prints}
use Rattle.matrix.proofs.answer.plan_answer.Goals as goal

pub returns-in-Ok : goal.returns-in-Ok
returns-in-Ok g c =
    let opened = c.open-plan.ensures in
    let loaded = c.in-Ok.ensures in
    let q = c.load_plan.new.plan in
    let e = ended g.A.Address.text g.A.Point.place g.A.Point.size (length c.args.rows.now) c.args.text.now _ c.open-plan.result q
    opened.made (λ h. (opened.shut h).0) opened.long (λ z. (loaded.shut z).0) (λ a b. (loaded.over a b).0) loaded.loads loaded.long in
    let plan = e.plan refl in
    record {
      made = e.made;
      end = None;
      ends = e.ends;
      printed = (runs_of q, plan.line, prints answer.Plan _ _ _ c.write_plan.result c.map.result (c.write_plan.ensures.wrote e.made plan) c.map.ensures.cases);
    }

pub returns-in-Err : goal.returns-in-Err
returns-in-Err g c =
    let opened = c.open-plan.ensures in
    let loaded = c.in-Err.ensures in
    let e = ended g.A.Address.text g.A.Point.place g.A.Point.size (length c.args.rows.now) c.args.text.now _ c.open-plan.result c.load_plan.new.plan
    opened.made (λ h. (opened.shut h).0) opened.long (λ z. (loaded.shut z).0) (λ a b. (loaded.over a b).0) loaded.loads loaded.long in
    record {
      made = e.made;
      end = Some c.in-Err.fault;
      ends = e.ends;
      printed = prints answer.Fault _ _ _ c.write_fault.result c.map-in-Err.result c.write_fault.ensures c.map-in-Err.ensures.cases;
    }
