use Rattle.std.proofs.Common.{◌<◌, arith}
use Rattle.line.proofs.Lines.{line_unique, line_tells}
use Rattle.line.proofs.Counts.{needed_line, line_fewest}
use Rattle.line.proofs.laws.line_laws.Goals as goal

pub returns : goal.returns
returns g c =
    let place = g.P.Point.place in
    let size = g.P.Point.size in
    let inside = g.met.P.Point.inside c.args._point.now in
    let some : 0 < size = omega arith in
    record {
      one = λ f g' rows others a b. (line_tells place size f g' rows others a b, line_unique place size f g' rows others a b);
      fewest = λ f rows others l j p.
          (needed_line g.L.PartialEq.eq g.met.L.Label.tells f place size rows some l, line_fewest g.L.PartialEq.eq g.met.L.Label.tells f place size rows others some l j p);
    }
