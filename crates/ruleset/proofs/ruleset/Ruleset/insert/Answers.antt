use Rattle.std.proofs.Common.{rules}
use Rattle.rules.proofs.Elsewhere.{inserted_elsewhere}
use Rattle.table.specs.Held.{held}
use Rattle.ruleset.proofs.Settling.{covered}
use Rattle.ruleset.proofs.Rights.{stopped}
use Rattle.ruleset.proofs.ruleset.Ruleset.insert.Goals as goal

pub returns-in_err-check_rule : goal.returns-in_err-check_rule
returns-in_err-check_rule c = stopped c.args.self.now _ _ c.check_rule.result _ c.in_err-check_rule.field-0.0 c.check_rule.ensures c.in_err-check_rule.was (search rules)

pub settle-requires-clause-elsewhere : goal.settle-requires-clause-elsewhere
settle-requires-clause-elsewhere c =
    let t = held c.args.self.now.rules in
    covered c.args.rule c.scope.result t (held c.insert.new.self) _ c.scope.ensures c.insert.ensures (inserted_elsewhere t c.args.position c.args.rule)
