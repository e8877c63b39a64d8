use Rattle.std.proofs.Common.{◌≡◌, ◌+◌}
use Rattle.line.specs.Line.{changes}
use Rattle.line.proofs.drawing.needed.Given as goal

abbrev pub invariant-loop-before : goal.invariant-loop-before
invariant-loop-before g l = l.before ≡ changes g.F.Tag.PartialEq.eq (g.F.Labelling.label l.labelling) (g.F.Spot.Point.place l.from + 1)
