use Rattle.std.proofs.Common.{◌≡◌, sym, ap, ◌∙◌, rules}
use Rattle.rules.specs.declared.rule.Rule.{Rule}
use Rattle.rules.specs.Decisions.{scope_of}
use Rattle.std.specs.List.{insert, remove}
use Rattle.rules.proofs.Elsewhere.{removed_elsewhere, inserted_elsewhere, elsewhere_twice}
use Rattle.table.specs.Held.{held, moved}
use Rattle.table.proofs.Holds.{moved_is}
use Rattle.ruleset.proofs.Settling.{covered}
use Rattle.ruleset.proofs.Rights.{unchanged}
use Rattle.ruleset.proofs.ruleset.Ruleset.move_to.Goals as goal

pub returns-in_err-i : goal.returns-in_err-i
returns-in_err-i c = unchanged c.args.self.now _ _ (search rules) (search rules)

pub returns-then-position-len : goal.returns-then-position-len
returns-then-position-len c = unchanged c.args.self.now _ _ (search rules) (search rules)

pub settle-requires-clause-elsewhere : goal.settle-requires-clause-elsewhere
settle-requires-clause-elsewhere c =
    let t = held c.args.self.now.rules in
    let r = c.at-rule.result in
    let i = c.in_ok-i.i in
    let to = c.args.position in
    let within = c.in_ok-i.ensures.within.0 in
    let read = c.at-rule.ensures r in
    let is : insert (remove t i) to r ≡ moved t i to = ap (λ (q : Rule). insert (remove t i) to q) read ∙ moved_is t i to r within in
    covered r c.scope.result t (held c.move_to.new.self) _ c.scope.ensures (c.move_to.ensures ∙ sym is)
    (elsewhere_twice (scope_of r) t (remove t i) (insert (remove t i) to r) (removed_elsewhere t i r within read) (inserted_elsewhere (remove t i) to r))
