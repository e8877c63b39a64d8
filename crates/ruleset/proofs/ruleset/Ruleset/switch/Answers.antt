use Rattle.std.proofs.Common.{◌≡◌, set, sym, refl, ap, ◌∙◌, rules}
use Rattle.rules.specs.declared.rule.Rule.{Rule}
use Rattle.rules.proofs.Elsewhere.{replaced_elsewhere}
use Rattle.table.specs.Held.{held, switched, switched_at}
use Rattle.table.proofs.Holds.{switched_is}
use Rattle.ruleset.proofs.Settling.{covered}
use Rattle.ruleset.proofs.Rights.{unchanged}
use Rattle.ruleset.proofs.ruleset.Ruleset.switch.Goals as goal

pub returns-in_err-i : goal.returns-in_err-i
returns-in_err-i c = unchanged c.args.self.now _ _ (search rules) (search rules)

pub settle-requires-clause-elsewhere : goal.settle-requires-clause-elsewhere
settle-requires-clause-elsewhere c =
    let t = held c.args.self.now.rules in
    let r = c.at-rule.result in
    let i = c.in_ok-i.i in
    let on = c.args.on in
    let within = c.in_ok-i.ensures.within.0 in
    let read = c.at-rule.ensures r in
    let is : set t i (switched on r) ≡ switched_at t i on = ap (λ (q : Rule). set t i (switched on q)) read ∙ switched_is t i on r within in
    covered r c.scope.result t (held c.switch.new.self) _ c.scope.ensures (c.switch.ensures ∙ sym is) (replaced_elsewhere t i r (switched on r) within read (λ from to. refl))
