-- What is known of the pairs that an edit leaves alone. No user of a ruleset meets these.
use Rattle.std.specs.Prelude.{◌≡◌, ℕ, ◌≤◌, false, List}
use Rattle.rules.specs.declared.rule.Rule.{Rule}
use Rattle.rules.specs.declared.scope.Scope.{Scope}
use Rattle.rules.specs.Ends.{scope_has}
use Rattle.sheets.specs.Strips.{Row, pair_needs, PairSheet, pair_number, strip}

-- the lines of the pairs that are not in the scope fit
abbrev pub FitElsewhere : Scope → List Rule → ℕ → ℕ → Type 0
FitElsewhere scope rules networks depth =
    (from to : ℕ) → from ≤ networks → to ≤ networks → scope_has scope from to ≡ false → pair_needs rules from to ≤ depth

-- the strips of the pairs that are not in the scope hold their sheets
abbrev pub DrawnElsewhere : Scope → List Rule → ℕ → ℕ → List Row → Type 0
DrawnElsewhere scope rules networks depth rows =
    (from to : ℕ) → from ≤ networks → to ≤ networks → scope_has scope from to ≡ false
    → PairSheet rules from to (strip depth (pair_number networks from to) rows)
