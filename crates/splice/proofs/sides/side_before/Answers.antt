use Rattle.std.proofs.Common.{◌≡◌, ◌-◌, sym, ap, ◌∙◌, arith}
use Rattle.std.proofs.lemmas.List.{get_or_default}
use Rattle.std.proofs.lemmas.Bool.{false≢true}
use Rattle.line.specs.declared.run.Run.{Run}
use Rattle.line.proofs.Points.{before, not_before}
use Rattle.splice.proofs.Spliced.{led_rest, led_merge, led_plain}
use Rattle.splice.proofs.sides.side_before.Goals as goal
use Rattle.splice.proofs.sides.side_before.Goals.{then-at-gt0+else-eq, else-at-gt0}

pub returns-then-lt-clause-led : goal.returns-then-lt-clause-led
returns-then-lt-clause-led g c = λ f spot.
    let runs = c.args.runs.now in
    let r = c.index-runs-at.result in
    let is = sym c.index-runs-at.is in
    led_rest g.P.Point.place g.P.Point.size f _ c.args.at r is c.args.new.now.low _ c.args.new.now.label spot c.unwrap-high.result
    (before g.P.Point.place g.P.PartialOrd.partial_cmp g.met.P.Point.ordered_by_place _ _ c.if-lt.ensures) (rw c.unwrap-high.ensures at c.previous.ensures)

pub returns-then-eq-clause-led : goal.returns-then-eq-clause-led
returns-then-eq-clause-led g c = λ f spot.
    let runs = c.args.runs.now in
    let r = c.index-runs-at.result in
    let q = c.index-runs-at-then-at-gt0.result in
    let is = sym c.index-runs-at.is in
    let isq = sym c.index-runs-at-then-at-gt0.is in
    led_merge g.P.Point.place g.P.Point.size f _ c.args.at r is c.args.new.now.low _ c.args.new.now.label spot q
    (not_before g.P.Point.place g.P.PartialOrd.partial_cmp g.met.P.Point.ordered_by_place _ _ c.if-lt.ensures) c.if-at-gt0.true isq ((g.met.L.Label.tells _ _).0 (sym c.if-eq.ensures))

pub returns-clause-led : goal.returns-clause-led
returns-clause-led g c = λ f spot.
    let runs = c.args.runs.now in
    let r = c.index-runs-at.result in
    let is = sym c.index-runs-at.is in
    led_plain g.P.Point.place g.P.Point.size f _ c.args.at r is c.args.new.now.low _ c.args.new.now.label spot
    (not_before g.P.Point.place g.P.PartialOrd.partial_cmp g.met.P.Point.ordered_by_place _ _ c.if-lt.ensures)
    (λ pos q isq same. elim c.if-at-gt0.branch [
      | then-at-gt0+else-eq w ↦
          let there = w.index-runs-at-then-at-gt0.is in
          let it = w.index-runs-at-then-at-gt0.result in
          let e : it ≡ q = there ∙ get_or_default runs (c.args.at - 1) it q (omega arith) ∙ isq in
          false≢true (w.if-eq.ensures ∙ (g.met.L.Label.tells _ _).1 (ap (λ (z : Run _ _). z.label) e ∙ same))
      | else-at-gt0 w ↦ omega (arith, w.if-at-gt0.false)
    ])
