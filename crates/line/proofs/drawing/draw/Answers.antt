use Rattle.std.proofs.Common.{refl, arith, length-set}
use Rattle.line.proofs.Counts.{changes_none, counted_more, counted_all, changes_below}
use Rattle.line.proofs.Begun.{begun_none, begun_more, begun_all, rest_more}
use Rattle.line.proofs.drawing.draw.Goals as goal

pub loop-before-init : goal.loop-before-init
loop-before-init g c =
    (changes_none g.F.Tag.PartialEq.eq g.met.F.Tag.Label.tells _ _ c.first-low.ensures, begun_none g.F.Spot.Point.place _ _ c.first-low.ensures, refl)

pub loop-before-preserved : goal.loop-before-preserved
loop-before-preserved g c =
    let f = g.F.Labelling.label c.args.labelling.now in
    let inside = g.met.F.Spot.Point.inside c.in-Some.after in
    let more = counted_more g.F.Tag.PartialEq.eq g.met.F.Tag.Label.tells f g.F.Spot.Point.size _ _ _ _ c.stretch-label.ensures c.in-Some.ensures inside in (
      omega arith,
      begun_more g.F.Spot.Point.place f g.F.Spot.Point.size c.loop-before.rows c.loop-before.before _ (omega arith) c.loop-before.invariant.1 c.stretch-label.ensures _ c.in-Some.ensures inside,
      rest_more c.loop-before.rows c.args.rows.now c.loop-before.before _ c.loop-before.invariant.2,
    )

pub returns-in_default : goal.returns-in_default
returns-in_default g c =
    let f = g.F.Labelling.label c.args.labelling.now in
    let all = counted_all g.F.Tag.PartialEq.eq g.met.F.Tag.Label.tells f g.F.Spot.Point.size _ _ _ c.stretch-label.ensures c.in_default.ensures in
    record {
      count = omega arith;
      drawn = record {
        fits = simp length-set (omega arith);
        line = begun_all g.F.Spot.Point.place f g.F.Spot.Point.size c.loop-before.rows c.loop-before.before _ (omega arith) c.loop-before.invariant.1 c.stretch-label.ensures c.in_default.ensures;
        rest = rest_more c.loop-before.rows c.args.rows.now c.loop-before.before _ c.loop-before.invariant.2;
      };
    }

pub unreachable-requires : goal.unreachable-requires
unreachable-requires g c =
    let f = g.F.Labelling.label c.args.labelling.now in
    let below = changes_below g.F.Tag.PartialEq.eq g.met.F.Tag.Label.tells f (g.F.Spot.Point.place c.loop-before.low) g.F.Spot.Point.size (g.met.F.Spot.Point.inside _) in
    omega arith
