use Rattle.std.proofs.Common.{sym, arith}
use Rattle.line.proofs.Rows.{row_keeps}
use Rattle.line.proofs.search.look_up.Goals as goal

pub returns : goal.returns
returns g c =
    let place = g.P.Point.place in
    let r = c.index-runs-at.result in
    let found = c.in_ok-at.ensures in
    record {
      some = omega (arith, found.within);
      is = λ f line.
          let holds = found.holds line.joined r in
          let keeps = row_keeps place f c.args.runs.now c.in_ok-at.at r found.within line.painted in
          sym (keeps.labelled (place c.args.p.now) holds.from holds.to);
    }
