use Rattle.std.proofs.Common.{ℕ, ◌<◌, ◌≤◌, eqb, ap, ◌∙◌, sym, zero-le, arith}
use Rattle.std.proofs.lemmas.Bool.{leb-true, leb-false}
use Rattle.std.proofs.lemmas.Bool.Decides.{Decides-eqb}
use Rattle.line.specs.declared.run.Run.{Run}
use Rattle.line.specs.Line.{over}
use Rattle.line.proofs.Counts.{needed_line}
use Rattle.line.proofs.Points.{before, not_before}
use Rattle.plan.proofs.Fits.{taken_here, taken_next, free_here, spot_here, read, length_changed}
use Rattle.plan.specs.Fit.{Unfit}
use Rattle.plan.proofs.fit.fit.Goals as goal
use Rattle.plan.proofs.fit.fit.Goals.{then-run-ne0-via-then-run-ne0, then-run-ne0-via-else-run-ne0+then-lt}

pub returns-then-run-ne0 : goal.returns-then-run-ne0
returns-then-run-ne0 g c = record {
  apt = zero-le;
  judged = λ f line.
      let place = g.P.Point.place in
      let size = g.P.Point.size in
      let runs = c.args.runs.now in
      let low : ℕ = place c.args.new.now.low in
      let high : ℕ = place c.args.new.now.high in
      let l = c.args.new.now.label in
      let sought = rw c.unwrap-at.ensures at c.seek.ensures in
      let r = c.index-runs-at.result in
      let is = c.index-runs-at.is in
      let at = c.unwrap-at.result in
      elim c.then-run-ne0.branch [
        | then-run-ne0-via-then-run-ne0 w ↦ Unfit.meets (taken_here place size f runs at low high sought r is line c.requires.ordered w.if-run-ne0.true)
        | then-run-ne0-via-else-run-ne0+then-lt w ↦
            Unfit.meets (taken_next place size f runs at low high sought r is line c.requires.ordered w.if-run-ne0.false
            (before place g.P.PartialOrd.partial_cmp g.met.P.Point.ordered_by_place _ _ w.if-lt.ensures) (g.met.P.Point.inside c.args.new.now.high))
      ];
}

pub returns-then-fills : goal.returns-then-fills
returns-then-fills g c = record {
  apt = zero-le;
  judged = λ f line.
      let place = g.P.Point.place in
      let size = g.P.Point.size in
      let runs = c.args.runs.now in
      let low : ℕ = place c.args.new.now.low in
      let high : ℕ = place c.args.new.now.high in
      let l = c.args.new.now.label in
      let sought = rw c.unwrap-at.ensures at c.seek.ensures in
      let r = c.index-runs-at.result in
      let is = c.index-runs-at.is in
      let at = c.unwrap-at.result in
      let e = c.if-run-ne0.false in
      let ends : high ≤ place r.high = not_before place g.P.PartialOrd.partial_cmp g.met.P.Point.ordered_by_place _ _ c.if-lt.ensures in
      let free = free_here place size f runs at low high sought r is line c.requires.ordered e ends in
      let spot = spot_here place size f runs at low high sought r is line c.requires.ordered l e ends c.requires.labels in
      let told = c.if-fills.ensures f l spot (λ d. ap (λ (w : Run _ ℕ). w.label) (read place size f runs at r sought.within is d) ∙ e) in
      Unfit.fills free told;
}

pub returns-then-not-has_room : goal.returns-then-not-has_room
returns-then-not-has_room g c = record {
  apt = zero-le;
  judged = λ f line.
      let place = g.P.Point.place in
      let size = g.P.Point.size in
      let runs = c.args.runs.now in
      let low : ℕ = place c.args.new.now.low in
      let high : ℕ = place c.args.new.now.high in
      let l = c.args.new.now.label in
      let sought = rw c.unwrap-at.ensures at c.seek.ensures in
      let r = c.index-runs-at.result in
      let is = c.index-runs-at.is in
      let at = c.unwrap-at.result in
      let e = c.if-run-ne0.false in
      let ends : high ≤ place r.high = not_before place g.P.PartialOrd.partial_cmp g.met.P.Point.ordered_by_place _ _ c.if-lt.ensures in
      let free = free_here place size f runs at low high sought r is line c.requires.ordered e ends in
      let spot = spot_here place size f runs at low high sought r is line c.requires.ordered l e ends c.requires.labels in
      let told = c.if-fills.ensures f l spot (λ d. ap (λ (w : Run _ ℕ). w.label) (read place size f runs at r sought.within is d) ∙ e) in
      let change = c.change_of-change.result in
      let inside = g.met.P.Point.inside c.args.new.now.low in
      let pos : 0 < size = omega arith in
      let len = length_changed change runs c.change_of-change.ensures.apt in
      let full = leb-false _ _ (sym c.if-not-has_room.ensures) in
      let needs = needed_line eqb Decides-eqb (over f low high l) place size _ pos (c.change_of-change.ensures.line f spot) in
      Unfit.full free told (omega arith);
}

pub returns : goal.returns
returns g c = record {
  apt = (c.change_of-change.ensures.apt, leb-true _ _ (sym c.if-not-has_room.ensures));
  judged = λ f line.
      let place = g.P.Point.place in
      let size = g.P.Point.size in
      let runs = c.args.runs.now in
      let low : ℕ = place c.args.new.now.low in
      let high : ℕ = place c.args.new.now.high in
      let l = c.args.new.now.label in
      let sought = rw c.unwrap-at.ensures at c.seek.ensures in
      let r = c.index-runs-at.result in
      let is = c.index-runs-at.is in
      let at = c.unwrap-at.result in
      let e = c.if-run-ne0.false in
      let ends : high ≤ place r.high = not_before place g.P.PartialOrd.partial_cmp g.met.P.Point.ordered_by_place _ _ c.if-lt.ensures in
      let free = free_here place size f runs at low high sought r is line c.requires.ordered e ends in
      let spot = spot_here place size f runs at low high sought r is line c.requires.ordered l e ends c.requires.labels in
      let told = c.if-fills.ensures f l spot (λ d. ap (λ (w : Run _ ℕ). w.label) (read place size f runs at r sought.within is d) ∙ e) in
      (free, told, c.change_of-change.ensures.line f spot);
}
