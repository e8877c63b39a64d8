use Rattle.std.proofs.Common.{arith, rules}
use Rattle.sheets.specs.Walks.{given}
use Rattle.sheets.proofs.Fits.{fits_pairs}
use Rattle.sheets.proofs.Progress.{one_drawn, one_kept, all_drawn}
use Rattle.sheets.proofs.Steps.{step, end}
use Rattle.sheets.proofs.sheets.Sheets.draw.Goals as goal

pub draw_pair-requires-clause-fits : goal.draw_pair-requires-clause-fits
draw_pair-requires-clause-fits c =
    let s = c.args.self.now in
    let pair = c.in-Some.pair in
    let now = step s.networks c.loop-pair.pair-iterator c.next.new.self pair c.loop-pair.invariant.networks c.in-Some.ensures.steps in
    let depth = c.loop-pair.invariant.drawn.depth in
    omega (arith, (fits_pairs c.args.rules.now s.networks s.depth).0 c.requires.fits pair.from pair.to now.from now.to)

pub loop-pair-preserved-then-has : goal.loop-pair-preserved-then-has
loop-pair-preserved-then-has c =
    let s = c.args.self.now in
    let i = c.loop-pair.pair-iterator in
    let j = c.next.new.self in
    let now = step s.networks i j c.in-Some.pair c.loop-pair.invariant.networks c.in-Some.ensures.steps in
    record {
      networks = now.same;
      lent = search rules;
      drawn = one_drawn c.args.rules.now s i j c.in-Some.pair now c.loop-pair.self c.draw_pair.new.self c.loop-pair.invariant.drawn c.draw_pair.ensures.drawn;
    }

pub loop-pair-preserved : goal.loop-pair-preserved
loop-pair-preserved c =
    let s = c.args.self.now in
    let i = c.loop-pair.pair-iterator in
    let j = c.next.new.self in
    let now = step s.networks i j c.in-Some.pair c.loop-pair.invariant.networks c.in-Some.ensures.steps in
    record {
      networks = now.same;
      lent = search rules;
      drawn = one_kept c.args.rules.now s c.args.scope.now c.requires.drawn i j c.in-Some.pair now (search rules) c.loop-pair.self c.loop-pair.invariant.drawn;
    }

pub returns-clause-right : goal.returns-clause-right
returns-clause-right c =
    let s = c.args.self.now in
    all_drawn c.args.rules.now s c.loop-pair.self (given c.loop-pair.pair-iterator)
    (end s.networks c.loop-pair.pair-iterator c.next.new.self c.loop-pair.invariant.networks c.in-None.ensures.steps) c.requires.long c.loop-pair.invariant.drawn
