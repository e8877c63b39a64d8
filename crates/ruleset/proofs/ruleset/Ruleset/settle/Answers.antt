use Rattle.std.proofs.Common.{◌≡◌, List, sym, ◌∙◌, subst}
use Rattle.rules.specs.declared.rule.Rule.{Rule}
use Rattle.table.specs.Held.{held}
use Rattle.sheets.specs.Strips.{fits_all}
use Rattle.sheets.specs.Scopes.{DrawnElsewhere, FitElsewhere}
use Rattle.sheets.proofs.Carried.{carried_drawn, carried_fits}
use Rattle.ruleset.proofs.Rights.{right_of, overflows}
use Rattle.ruleset.proofs.ruleset.Ruleset.settle.Goals as goal

pub fit-requires : goal.fit-requires
fit-requires c =
    let s = c.args.self.now in
    let q = c.strips.ensures in
    rw (q.networks, q.depth) (subst (λ (l : List Rule). FitElsewhere c.args.scope.now l s.sheets.networks s.sheets.depth) (sym c.rules.ensures)
    (carried_fits c.args.scope.now (held s.rules) (held c.args.next) c.requires.elsewhere s.sheets.networks s.sheets.depth s.sheets.rows.now (right_of s c.requires.ready)))

pub returns-then-not-fit : goal.returns-then-not-fit
returns-then-not-fit c =
    let s = c.args.self.now in
    let q = c.strips.ensures in
    let fit = rw (q.networks, q.depth) at c.fit.ensures in
    overflows s (held c.args.next) (subst (λ (l : List Rule). fits_all l s.sheets.networks s.sheets.depth ≡ _) c.rules.ensures (sym fit ∙ c.if-not-fit.true))

pub draw-requires-clause-drawn : goal.draw-requires-clause-drawn
draw-requires-clause-drawn c =
    let s = c.args.self.now in
    subst (λ (l : List Rule). DrawnElsewhere c.args.scope.now l s.sheets.networks s.sheets.depth s.sheets.rows.now) (sym c.rules-2.ensures)
    (carried_drawn c.args.scope.now (held s.rules) (held c.args.next) c.requires.elsewhere s.sheets.networks s.sheets.depth s.sheets.rows.now (right_of s c.requires.ready))
