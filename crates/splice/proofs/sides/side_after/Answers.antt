use Rattle.std.proofs.Common.{◌≡◌, ◌+◌, sym, ap, ◌∙◌, arith}
use Rattle.std.proofs.lemmas.List.{get_or_default}
use Rattle.std.proofs.lemmas.Bool.{false≢true}
use Rattle.line.specs.declared.run.Run.{Run}
use Rattle.line.proofs.Points.{before, not_before}
use Rattle.splice.proofs.Spliced.{follows_rest, follows_merge, follows_plain}
use Rattle.splice.proofs.sides.side_after.Goals as goal
use Rattle.splice.proofs.sides.side_after.Goals.{then-at-runs+else-eq, else-at-runs}

pub returns-then-lt-clause-follows : goal.returns-then-lt-clause-follows
returns-then-lt-clause-follows g c = λ f spot.
    let runs = c.args.runs.now in
    let r = c.index-runs-at.result in
    let is = sym c.index-runs-at.is in
    follows_rest g.P.Point.place g.P.Point.size f _ c.args.at r is _ c.args.new.now.high c.args.new.now.label spot c.unwrap-low.result
    (before g.P.Point.place g.P.PartialOrd.partial_cmp g.met.P.Point.ordered_by_place _ _ c.if-lt.ensures) (rw c.unwrap-low.ensures at c.next.ensures)

pub returns-then-eq-clause-follows : goal.returns-then-eq-clause-follows
returns-then-eq-clause-follows g c = λ f spot.
    let runs = c.args.runs.now in
    let r = c.index-runs-at.result in
    let q = c.index-runs-at-then-at-runs.result in
    let is = sym c.index-runs-at.is in
    let isq = sym c.index-runs-at-then-at-runs.is in
    follows_merge g.P.Point.place g.P.Point.size f _ c.args.at r is _ c.args.new.now.high c.args.new.now.label spot q
    (not_before g.P.Point.place g.P.PartialOrd.partial_cmp g.met.P.Point.ordered_by_place _ _ c.if-lt.ensures) (omega arith) isq ((g.met.L.Label.tells _ _).0 (sym c.if-eq.ensures))

pub returns-clause-follows : goal.returns-clause-follows
returns-clause-follows g c = λ f spot.
    let runs = c.args.runs.now in
    let r = c.index-runs-at.result in
    let is = sym c.index-runs-at.is in
    follows_plain g.P.Point.place g.P.Point.size f _ c.args.at r is _ c.args.new.now.high c.args.new.now.label spot
    (not_before g.P.Point.place g.P.PartialOrd.partial_cmp g.met.P.Point.ordered_by_place _ _ c.if-lt.ensures)
    (λ lt q isq same. elim c.if-at-runs.branch [
      | then-at-runs+else-eq w ↦
          let there = w.index-runs-at-then-at-runs.is in
          let it = w.index-runs-at-then-at-runs.result in
          let e : it ≡ q = there ∙ get_or_default runs (c.args.at + 1) it q (omega arith) ∙ isq in
          false≢true (w.if-eq.ensures ∙ (g.met.L.Label.tells _ _).1 (ap (λ (z : Run _ _). z.label) e ∙ same))
      | else-at-runs w ↦ omega (arith, w.if-at-runs.false)
    ])
