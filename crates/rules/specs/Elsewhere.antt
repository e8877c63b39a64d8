-- What an edit leaves alone.
use Rattle.std.specs.Prelude.{◌≡◌, ℕ, false, List}
use Rattle.rules.specs.declared.rule.Rule.{Rule}
use Rattle.rules.specs.declared.scope.Scope.{Scope}
use Rattle.rules.specs.Ends.{scope_has}
use Rattle.rules.specs.Decisions.{decision}

-- two lists decide alike of each pair that is not in the scope
abbrev pub AlikeElsewhere : Scope → List Rule → List Rule → Type 0
AlikeElsewhere scope rules next = (from to : ℕ) → scope_has scope from to ≡ false → (x : ℕ) → decision rules from to x ≡ decision next from to x
