-- A list of rules with one of them edited, where the rule is known.
use Rattle.std.proofs.Common.{◌≡◌, ℕ, ◌<◌, ◌≤◌, Bool, List, [], ◌∷◌, length, get_or, set, ap, arith}
use Rattle.std.proofs.lemmas.List.{get_or_default, length-take}
use Rattle.rules.specs.declared.rule.Rule.{Rule}
use Rattle.std.specs.List.{insert, remove}
use Rattle.table.specs.declared.table.RuleTable.{RuleTable}
use Rattle.table.specs.Limits.{most_rules}
use Rattle.table.specs.Held.{held, moved, switched, switched_at}

pub moved_is : (rules : List Rule) (i to : ℕ) (d : Rule) → i < length rules → insert (remove rules i) to (get_or rules i d) ≡ moved rules i to
moved_is [] i to d h = absurd (omega arith)
moved_is (r ∷ rules) i to d h = ap (λ (q : Rule). insert (remove (r ∷ rules) i) to q) (get_or_default (r ∷ rules) i d r h)

pub switched_is : (rules : List Rule) (i : ℕ) (on : Bool) (d : Rule) → i < length rules → set rules i (switched on (get_or rules i d)) ≡ switched_at rules i on
switched_is [] i on d h = absurd (omega arith)
switched_is (r ∷ rules) i on d h = ap (λ (q : Rule). set (r ∷ rules) i (switched on q)) (get_or_default (r ∷ rules) i d r h)

-- a table holds no more rules than it may
pub held_most : (t : RuleTable) → length (held t) ≤ most_rules
held_most t = let a = t.rules.fits in omega (arith, length-take t.rules.count t.rules.rows)
