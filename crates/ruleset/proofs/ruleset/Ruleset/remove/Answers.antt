use Rattle.std.proofs.Common.{rules}
use Rattle.rules.proofs.Elsewhere.{removed_elsewhere}
use Rattle.table.specs.Held.{held}
use Rattle.ruleset.proofs.Settling.{covered}
use Rattle.ruleset.proofs.Rights.{unchanged}
use Rattle.ruleset.proofs.ruleset.Ruleset.remove.Goals as goal

pub returns-in_err-i : goal.returns-in_err-i
returns-in_err-i c = unchanged c.args.self.now _ _ (search rules) (search rules)

pub settle-requires-clause-elsewhere : goal.settle-requires-clause-elsewhere
settle-requires-clause-elsewhere c =
    let t = held c.args.self.now.rules in
    let r = c.remove-rule.result in
    covered r c.scope.result t (held c.remove-rule.new.self) _ c.scope.ensures c.remove-rule.ensures.held (removed_elsewhere t c.in_ok-i.i r c.in_ok-i.ensures.within.0 (c.remove-rule.ensures.value r))
