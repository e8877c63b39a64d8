use Rattle.std.proofs.Common.{◌≤◌, sym, inl, inr, arith, rules}
use Rattle.std.proofs.lemmas.Bool.{cases_Bool}
use Rattle.sheets.specs.Strips.{pair_needs, fits_all}
use Rattle.sheets.specs.Walks.{given}
use Rattle.sheets.proofs.Fits.{fits_pairs, needs_copied, too_long, long_enough}
use Rattle.sheets.proofs.Steps.{step, end, below_next, below_all}
use Rattle.sheets.proofs.strips.Strips.fit.Goals as goal
use Rattle.sheets.proofs.strips.Strips.fit.Goals.{else-has-via-then-has+else-is_none, else-has-via-else-has}

pub returns-then-is_none : goal.returns-then-is_none
returns-then-is_none c =
    let s = c.args.self.now in
    let rules_now = c.args.rules.now in
    let pair = c.in-Some.pair in
    let now = step s.networks c.loop-pair.pair-iterator c.next.new.self pair c.loop-pair.invariant.networks c.in-Some.ensures.steps in
    let more = too_long _ _ c.needed.result c.needed.ensures (search rules) in
    let needs = needs_copied rules_now c.new.result.rules.now pair c.new.result.pair c.new.ensures.rules c.new.ensures.pair in
    elim (cases_Bool (fits_all rules_now s.networks s.depth)) [
      | inl t ↦ absurd (omega (arith, (fits_pairs rules_now s.networks s.depth).0 t pair.from pair.to now.from now.to))
      | inr f ↦ sym f
    ]

pub loop-pair-preserved : goal.loop-pair-preserved
loop-pair-preserved c =
    let s = c.args.self.now in
    let rules_now = c.args.rules.now in
    let pair = c.in-Some.pair in
    let now = step s.networks c.loop-pair.pair-iterator c.next.new.self pair c.loop-pair.invariant.networks c.in-Some.ensures.steps in
    record {
      networks = now.same;
      fits = below_next (λ x y. pair_needs rules_now x y ≤ s.depth) s.networks c.loop-pair.pair-iterator c.next.new.self pair now c.loop-pair.invariant.fits
          (elim c.else-has.branch [
            | else-has-via-then-has+else-is_none w ↦
                let needs = needs_copied rules_now w.new.result.rules.now pair w.new.result.pair w.new.ensures.rules w.new.ensures.pair in
                let less = long_enough _ _ w.needed.result w.needed.ensures (search rules) in
                omega arith
            | else-has-via-else-has w ↦ c.requires pair.from pair.to now.from now.to (search rules)
          ]);
    }

pub returns : goal.returns
returns c =
    let s = c.args.self.now in
    sym ((fits_pairs c.args.rules.now s.networks s.depth).1
    (below_all (λ x y. pair_needs c.args.rules.now x y ≤ s.depth) s.networks (given c.loop-pair.pair-iterator)
    (end s.networks c.loop-pair.pair-iterator c.next.new.self c.loop-pair.invariant.networks c.in-None.ensures.steps) c.loop-pair.invariant.fits))
