-- The text of a plan reads back.
use Rattle.planwrite.proofs.Plans.{plan_reads}
use Rattle.planwrite.proofs.write.write_plan.Goals as goal

pub returns-in_err-ok_or-clause-reads_back : goal.returns-in_err-ok_or-clause-reads_back
returns-in_err-ok_or-clause-reads_back g c ds made _ = plan_reads g.A.Address.text g.A.Point.place g.A.Point.size ds c.args.plan.now made g.met.A.Address.plain

pub returns-clause-reads_back : goal.returns-clause-reads_back
returns-clause-reads_back g c ds made _ = plan_reads g.A.Address.text g.A.Point.place g.A.Point.size ds c.args.plan.now made g.met.A.Address.plain
