-- A run adds its row if it is of the network.
use Rattle.std.proofs.Common.{◌+◌, drop, sym, ◌∙◌, subst}
use Rattle.planwrite.specs.Written.{net_text}
use Rattle.planwrite.proofs.Writing.{Begun, begin, part_fits, part_taken, all_spent, net_here, net_past}
use Rattle.planwrite.proofs.rows.write_net.Goals as goal
use Rattle.planwrite.proofs.rows.write_net.Goals.{then-run-number+else-is_spent, else-run-number}

pub loop-run-init : goal.loop-run-init
loop-run-init g c = begin g.met.S.Sink.laws _ c.args.sink.now c.requires

pub write_row-requires : goal.write_row-requires
write_row-requires g c =
    let text = g.A.Address.text in
    let here = net_here text c.args.number c.args.name.now c.args.runs.now c.loop-run.run-index c.run-item.result c.loop-run-test.true c.run-item.is c.if-run-number.true in
    part_fits g.met.S.Sink.laws c.loop-run.invariant (net_text text c.args.number c.args.name.now (drop (c.loop-run.run-index + 1) c.args.runs.now)) here

pub returns-then-is_spent : goal.returns-then-is_spent
returns-then-is_spent g c =
    let text = g.A.Address.text in
    let n = c.args.number in
    let name = c.args.name.now in
    let runs = c.args.runs.now in
    let i = c.loop-run.run-index in
    let here = net_here text n name runs i c.run-item.result c.loop-run-test.true c.run-item.is c.if-run-number.true in
    all_spent g.met.S.Sink.laws (part_taken g.met.S.Sink.laws c.loop-run.invariant here c.write_row.ensures)
    (g.met.S.Spendable.stays _ (net_text text n name (drop (i + 1) runs)) (sym c.is_spent.ensures ∙ c.if-is_spent.true))

pub loop-run-preserved : goal.loop-run-preserved
loop-run-preserved g c =
    let text = g.A.Address.text in
    let n = c.args.number in
    let name = c.args.name.now in
    let runs = c.args.runs.now in
    let i = c.loop-run.run-index in
    let all = net_text text n name runs in
    let rest = net_text text n name (drop (i + 1) runs) in
    elim c.if-run-number.branch [
      | then-run-number+else-is_spent w ↦
          let here = net_here text n name runs i c.run-item.result c.loop-run-test.true c.run-item.is w.if-run-number.true in
          subst (λ s. Begun g.S.Sink.has_room g.S.Sink.takes all rest c.args.sink.now s) (sym w.sink-is) (part_taken g.met.S.Sink.laws c.loop-run.invariant here w.write_row.ensures)
      | else-run-number w ↦
          let past = net_past text n name runs i c.run-item.result c.loop-run-test.true c.run-item.is w.if-run-number.false in
          subst (λ s. Begun g.S.Sink.has_room g.S.Sink.takes all rest c.args.sink.now s) (sym w.sink-is)
          (subst (λ q. Begun g.S.Sink.has_room g.S.Sink.takes all q c.args.sink.now c.loop-run.sink) past c.loop-run.invariant)
    ]
