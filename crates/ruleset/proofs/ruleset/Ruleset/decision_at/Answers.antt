use Rattle.std.proofs.Common.{◌^◌, ◌<◌, List, length, sym, subst}
use Rattle.line.specs.Line.{Line}
use Rattle.service.specs.Spans.{place_of}
use Rattle.rules.specs.Decisions.{decision}
use Rattle.sheets.specs.Strips.{Row}
use Rattle.ruleset.specs.Views.{rules_of}
use Rattle.ruleset.proofs.Told.{runs_line, runs_some, labelled}
use Rattle.ruleset.proofs.ruleset.Ruleset.decision_at.Goals as goal

pub unwrap-requires : goal.unwrap-requires
unwrap-requires c =
    let some = runs_some c.args.self.now c.requires.ready c.args.pair.from c.args.pair.to c.requires.inside.0 c.requires.inside.1 in
    labelled c.look_up.result _ _ c.look_up.ensures (subst (λ (l : List Row). 0 < length l) (sym c.runs_at.ensures) some)

pub returns : goal.returns
returns c =
    let s = c.args.self.now in
    let f = decision (rules_of s) c.args.pair.from c.args.pair.to in
    let found = rw c.unwrap.ensures at c.look_up.ensures in
    found.is f
    (subst (λ (l : List Row). Line place_of (2 ^ 24) f l) (sym c.runs_at.ensures) (runs_line s c.requires.ready c.args.pair.from c.args.pair.to c.requires.inside.0 c.requires.inside.1))
