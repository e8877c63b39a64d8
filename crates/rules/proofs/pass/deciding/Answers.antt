use Rattle.std.proofs.Common.{◌≡◌, ◌-◌, ◌<◌, ◌≤◌, min, sym, ap, true, false, arith}
use Rattle.std.proofs.lemmas.Bool.{ltb-false, ltb-true, leb-false, leb-true}
use Rattle.service.specs.Spans.{place_of, last_place}
use Rattle.rules.proofs.Passes.{lt_places, le_places, passed_more, passed_found, off, too_low, too_high, on}
use Rattle.rules.proofs.pass.deciding.Goals as goal
use Rattle.rules.proofs.pass.deciding.Goals.{then-applies+then-lt, then-applies+else-lt+else-le, else-applies}

pub returns-then-le : goal.returns-then-le
returns-then-le c =
    let s = place_of c.args.service.now in
    let r = c.rule-item.result in
    let low : place_of c.first-first.result ≤ s = ltb-false _ _ (sym (lt_places c.args.service.now c.first-first.result false c.if-lt.ensures)) in
    let high : s ≤ place_of c.last-last.result = leb-true _ _ (sym (le_places c.args.service.now c.last-last.result true c.if-le.ensures)) in
    let end : place_of c.earlier.result ≡ min (place_of c.last-last.result) (place_of c.loop-rule.end) = c.earlier.ensures in
    let below : place_of c.earlier.result ≤ last_place r.span = omega (arith, c.last-last.ensures) in
    passed_found c.args.rules.now c.args.pair.from c.args.pair.to s c.loop-rule.rule-index r (place_of c.loop-rule.end) c.loop-rule-test.true c.rule-item.is c.loop-rule.invariant
    (place_of c.earlier.result) (omega (arith, c.last-last.ensures, c.loop-rule.invariant.ordered)) (omega arith)
    (λ x a b. on r c.args.pair.from c.args.pair.to x (sym c.if-applies.ensures) (omega (arith, c.first-first.ensures)) (omega arith))

pub loop-rule-preserved : goal.loop-rule-preserved
loop-rule-preserved c =
    let s = place_of c.args.service.now in
    let r = c.rule-item.result in
    let next = place_of c.if-applies.end in
    let more = passed_more c.args.rules.now c.args.pair.from c.args.pair.to s c.loop-rule.rule-index r (place_of c.loop-rule.end) c.loop-rule-test.true c.rule-item.is c.loop-rule.invariant next in
    elim c.if-applies.branch [
      | then-applies+then-lt w ↦
          let e : next ≡ place_of w.last_before-end.result = ap place_of w.end-is in
          let low : s < place_of w.first-first.result = ltb-true _ _ (sym (lt_places c.args.service.now w.first-first.result true w.if-lt.ensures)) in
          let end : place_of w.last_before-end.result ≡ min (place_of w.first-first.result - 1) (place_of c.loop-rule.end) = w.last_before-end.ensures in
          let first = w.first-first.ensures in
          more (omega (arith, c.loop-rule.invariant.ordered)) (omega arith) (λ x a b. too_low r c.args.pair.from c.args.pair.to x (omega arith))
      | then-applies+else-lt+else-le w ↦
          let e : next ≡ place_of c.loop-rule.end = ap place_of w.end-is in
          let high : place_of w.last-last.result < s = leb-false _ _ (sym (le_places c.args.service.now w.last-last.result false w.if-le.ensures)) in
          more (omega (arith, c.loop-rule.invariant.ordered)) (omega arith) (λ x a b. too_high r c.args.pair.from c.args.pair.to x (omega (arith, w.last-last.ensures)))
      | else-applies w ↦
          let e : next ≡ place_of c.loop-rule.end = ap place_of w.end-is in
          more (omega (arith, c.loop-rule.invariant.ordered)) (omega arith) (λ x a b. off r c.args.pair.from c.args.pair.to x (sym w.if-applies.ensures))
    ]
