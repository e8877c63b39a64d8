use Rattle.std.proofs.Common.{◌-◌}
use Rattle.line.specs.Line.{Keeps}
use Rattle.line.proofs.drawing.stretch.Given as goal

abbrev pub invariant-loop-after : goal.invariant-loop-after
invariant-loop-after g l =
    let place = g.F.Spot.Point.place in
    Keeps (g.F.Labelling.label l.labelling) l.label (place l.from) (place l.end)

abbrev pub decreases-loop-after : goal.decreases-loop-after
decreases-loop-after g l = g.F.Spot.Point.size - g.F.Spot.Point.place l.end
