-- An edit differs from the rules only for the pairs that its rule covers.
use Rattle.std.proofs.Common.{◌≡◌, List, sym, subst}
use Rattle.rules.specs.declared.rule.Rule.{Rule}
use Rattle.rules.specs.declared.scope.Scope.{Scope}
use Rattle.rules.specs.Decisions.{scope_of}
use Rattle.rules.specs.Elsewhere.{AlikeElsewhere}

pub covered : (r : Rule) (scope : Scope) (rules next edited : List Rule) → scope ≡ scope_of r → next ≡ edited → AlikeElsewhere (scope_of r) rules edited → AlikeElsewhere scope rules next
covered r scope rules next edited e is alike =
    subst (λ (s : Scope). AlikeElsewhere s rules next) (sym e) (subst (λ (l : List Rule). AlikeElsewhere (scope_of r) rules l) (sym is) alike)
