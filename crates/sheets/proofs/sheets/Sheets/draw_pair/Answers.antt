use Rattle.std.proofs.Common.{◌≡◌, ◌+◌, ◌*◌, length, sym, ◌∙◌, subst, List, arith, rules}
use Rattle.std.proofs.lemmas.List.Edits.{length-between}
use Rattle.sheets.specs.Strips.{Row, PairSheet, pair_number}
use Rattle.sheets.proofs.Fits.{needs_copied, sheet_copied}
use Rattle.sheets.proofs.Numbered.{strip_inside}
use Rattle.sheets.proofs.Rows.{written, apart}
use Rattle.sheets.proofs.sheets.Sheets.draw_pair.Goals as goal

pub slice_bounds-strip-end : goal.slice_bounds-strip-end
slice_bounds-strip-end c =
    let s = c.args.self.now in
    let pair = c.args.pair in
    let q = c.strips.ensures in
    let begun : c.start_of-start.result ≡ pair_number s.networks pair.from pair.to * s.depth = c.start_of-start.ensures ∙ (λ i. pair_number (q.networks i) pair.from pair.to * q.depth i) in
    let inside = strip_inside s.networks s.depth pair.from pair.to c.requires.inside.0 c.requires.inside.1 in
    omega arith

pub draw_over-requires : goal.draw_over-requires
draw_over-requires c =
    let s = c.args.self.now in
    let pair = c.args.pair in
    let q = c.strips.ensures in
    let begun : c.start_of-start.result ≡ pair_number s.networks pair.from pair.to * s.depth = c.start_of-start.ensures ∙ (λ i. pair_number (q.networks i) pair.from pair.to * q.depth i) in
    let inside = strip_inside s.networks s.depth pair.from pair.to c.requires.inside.0 c.requires.inside.1 in
    let len = length-between s.rows.now c.start_of-start.result (c.start_of-start.result + s.depth) (omega arith) in
    let needs = needs_copied c.args.rules.now c.new.result.rules.now pair c.new.result.pair c.new.ensures.rules c.new.ensures.pair in
    record { ready = tt; fits = omega arith }

pub returns-clause-drawn : goal.returns-clause-drawn
returns-clause-drawn c =
    let s = c.args.self.now in
    let pair = c.args.pair in
    let start = c.start_of-start.result in
    let drawn = c.draw_over.new.rows in
    let number = pair_number s.networks pair.from pair.to in
    let q = c.strips.ensures in
    let begun : start ≡ number * s.depth = c.start_of-start.ensures ∙ (λ i. pair_number (q.networks i) pair.from pair.to * q.depth i) in
    let inside = strip_inside s.networks s.depth pair.from pair.to c.requires.inside.0 c.requires.inside.1 in
    let len = length-between s.rows.now start (start + s.depth) (omega arith) in
    let long : length drawn ≡ s.depth = omega (arith, c.draw_over.auto.rows) in
    let sheet = sheet_copied c.args.rules.now c.new.result.rules.now pair c.new.result.pair c.new.ensures.rules c.new.ensures.pair _ c.blank_row.ensures _ c.draw_over.ensures in
    record {
      networks = search rules;
      depth = search rules;
      long = search rules;
      sheet = subst (λ (l : List Row). PairSheet c.args.rules.now pair.from pair.to l) (sym (written s.depth number start _ s.rows.now drawn begun (omega arith) long)) sheet;
      others = λ p other. apart s.depth number start _ s.rows.now drawn begun (omega arith) long p other (omega arith);
    }
