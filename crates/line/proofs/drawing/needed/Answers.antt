use Rattle.std.proofs.Common.{arith}
use Rattle.line.proofs.Counts.{changes_none, counted_more, counted_all, changes_below}
use Rattle.line.proofs.drawing.needed.Goals as goal

pub loop-before-init : goal.loop-before-init
loop-before-init g c = changes_none g.F.Tag.PartialEq.eq g.met.F.Tag.Label.tells _ _ c.first-from.ensures

pub loop-before-preserved : goal.loop-before-preserved
loop-before-preserved g c =
    let f = g.F.Labelling.label c.args.labelling.now in
    let more = counted_more g.F.Tag.PartialEq.eq g.met.F.Tag.Label.tells f g.F.Spot.Point.size _ _ _ _ c.stretch-high.ensures c.in-Some.ensures (g.met.F.Spot.Point.inside _) in
    let before = c.loop-before.invariant in
    omega arith

pub returns-in_default : goal.returns-in_default
returns-in_default g c =
    let f = g.F.Labelling.label c.args.labelling.now in
    let all = counted_all g.F.Tag.PartialEq.eq g.met.F.Tag.Label.tells f g.F.Spot.Point.size _ _ _ c.stretch-high.ensures c.in_default.ensures in
    let before = c.loop-before.invariant in
    (omega arith, omega arith)

pub returns : goal.returns
returns g c =
    let f = g.F.Labelling.label c.args.labelling.now in
    let below = changes_below g.F.Tag.PartialEq.eq g.met.F.Tag.Label.tells f (g.F.Spot.Point.place c.loop-before.from) g.F.Spot.Point.size (g.met.F.Spot.Point.inside _) in
    let before = c.loop-before.invariant in
    omega arith
