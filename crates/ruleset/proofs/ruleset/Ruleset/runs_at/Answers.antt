use Rattle.sheets.proofs.Telling.{runs_found}
use Rattle.ruleset.specs.Views.{rules_of}
use Rattle.ruleset.proofs.Rights.{right_of}
use Rattle.ruleset.proofs.ruleset.Ruleset.runs_at.Goals as goal

pub returns : goal.returns
returns c =
    let s = c.args.self.now in
    let q = c.strips.ensures in
    let strip = rw (q.networks, q.depth, q.rows) at c.strip_of.ensures in
    runs_found (rules_of s) s.sheets.networks s.sheets.depth s.sheets.rows.now (right_of s c.requires.ready) c.args.pair.from c.args.pair.to c.requires.inside.0 c.requires.inside.1 _ _ strip c.line_of.ensures
