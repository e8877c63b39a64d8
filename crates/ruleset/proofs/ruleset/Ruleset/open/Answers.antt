use Rattle.std.proofs.Common.{List, sym, ap, ◌∙◌}
use Rattle.rules.specs.declared.rule.Rule.{Rule}
use Rattle.sheets.specs.Strips.{fits_all}
use Rattle.sheets.proofs.Empty.{empty_fits}
use Rattle.ruleset.proofs.Sizes.{some_depth}
use Rattle.ruleset.proofs.ruleset.Ruleset.open.Goals as goal

pub draw-requires-clause-fits : goal.draw-requires-clause-fits
draw-requires-clause-fits c =
    let some = some_depth c.args.networks c.args.depth _ (sym c.fits-ready.ensures ∙ c.if-ready.true) in
    ap (λ (l : List Rule). fits_all l c.args.networks c.args.depth) (c.rules.ensures ∙ c.new-rules.ensures) ∙ empty_fits c.args.networks c.args.depth some
