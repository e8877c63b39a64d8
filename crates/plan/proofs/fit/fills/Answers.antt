use Rattle.std.proofs.Common.{ℕ, sym, ap, ◌∙◌, arith}
use Rattle.std.proofs.lemmas.List.{get_or_default}
use Rattle.line.specs.declared.run.Run.{Run}
use Rattle.line.proofs.Points.{before, not_before}
use Rattle.plan.proofs.Fits.{remains_low, remains_high, remains_other, fills_all, read}
use Rattle.plan.proofs.fit.fills.Goals as goal
use Rattle.plan.proofs.fit.fills.Goals.{then-lt-via-then-lt, then-lt-via-else-lt+then-lt-2}

pub returns-then-lt : goal.returns-then-lt
returns-then-lt g c = λ f l spot zero.
    let place = g.P.Point.place in
    let runs = c.args.runs.now in
    let r = c.index-runs-at.result in
    let is = read place g.P.Point.size f runs c.args.at r c.requires c.index-runs-at.is in
    let low : ℕ = place c.args.new.now.low in
    let high : ℕ = place c.args.new.now.high in
    let free = sym (ap (λ (w : Run _ ℕ). w.label) (is r)) ∙ zero r in
    elim c.then-lt.branch [
      | then-lt-via-then-lt w ↦
          remains_low place g.P.Point.size f _ c.args.at low high r (is r) spot.line spot.within free
          (before place g.P.PartialOrd.partial_cmp g.met.P.Point.ordered_by_place _ _ w.if-lt.ensures)
      | then-lt-via-else-lt+then-lt-2 w ↦
          remains_high place g.P.Point.size f _ c.args.at low high r (is r) spot.line spot.within free
          (before place g.P.PartialOrd.partial_cmp g.met.P.Point.ordered_by_place _ _ w.if-lt-2.ensures)
    ]

pub returns-then-other-eq0 : goal.returns-then-other-eq0
returns-then-other-eq0 g c = λ f l spot zero.
    let place = g.P.Point.place in
    let runs = c.args.runs.now in
    let i = c.loop-i.i in
    let r = c.index-runs-at.result in
    let is = read place g.P.Point.size f runs c.args.at r c.requires c.index-runs-at.is in
    let from = spot.from r in
    let to = spot.to r in
    let lo = ap (λ (w : Run _ ℕ). place w.low) (is r) in
    let hi = ap (λ (w : Run _ ℕ). place w.high) (is r) in
    remains_other place g.P.Point.size f _ c.args.at (place c.args.new.now.low) (place c.args.new.now.high) r (is r) spot.line spot.within
    (omega arith) (omega arith) i (omega arith) c.if-i-at.true
    (ap (λ (w : Run _ ℕ). w.label) (get_or_default runs i r c.index-runs-i.result (omega arith) ∙ sym c.index-runs-i.is) ∙ c.if-other-eq0.true)

pub returns : goal.returns
returns g c = λ f l spot zero.
    let place = g.P.Point.place in
    let runs = c.args.runs.now in
    let r = c.index-runs-at.result in
    let is = read place g.P.Point.size f runs c.args.at r c.requires c.index-runs-at.is in
    fills_all place g.P.Point.size f _ c.args.at (place c.args.new.now.low) (place c.args.new.now.high) r (is r) spot.line spot.within
    (not_before place g.P.PartialOrd.partial_cmp g.met.P.Point.ordered_by_place _ _ c.if-lt.ensures) (not_before place g.P.PartialOrd.partial_cmp g.met.P.Point.ordered_by_place _ _ c.if-lt-2.ensures)
    (λ k lt ne e. c.loop-i.invariant k (omega arith) ne r e)
