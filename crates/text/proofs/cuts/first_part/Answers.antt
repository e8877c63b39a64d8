-- The first part is the front of the cut, or the whole text.
use Rattle.std.proofs.Common.{ℕ, List, sym, ap, ◌∙◌}
use Rattle.text.specs.Parts.{first_part}
use Rattle.text.proofs.Cutting.{first_cut, first_whole}
use Rattle.text.proofs.cuts.first_part.Goals as goal

pub returns-in-Some : goal.returns-in-Some
returns-in-Some c =
    let k = c.in-Some.ensures in
    let p = c.in-Some.parted in
    sym (ap (λ (q : List ℕ). first_part c.args.stop q) k.whole ∙ first_cut c.args.stop p.front.now p.rest.now k.first)

pub returns-in-None : goal.returns-in-None
returns-in-None c = sym (first_whole c.args.stop c.args.text.now c.in-None.ensures)
