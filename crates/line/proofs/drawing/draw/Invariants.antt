use Rattle.std.proofs.Common.{◌≡◌, ◌+◌, take, drop}
use Rattle.line.specs.Line.{changes}
use Rattle.line.proofs.Begun.{Begun}
use Rattle.line.proofs.drawing.draw.Given as goal

abbrev pub invariant-loop-before : goal.invariant-loop-before
invariant-loop-before g l =
    let f = g.F.Labelling.label l.labelling in
    let at = g.F.Spot.Point.place l.low in
    (l.before ≡ changes g.F.Tag.PartialEq.eq f (at + 1)) × Begun g.F.Spot.Point.place f at (take l.before l.rows)
    × (drop l.before l.rows ≡ drop l.before l.initial.rows)
