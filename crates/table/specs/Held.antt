-- The rules that a table holds, and lists of rules with one of them edited. Positions count from 0.
use Rattle.std.specs.Prelude.{ℕ, Bool, List, [], ◌∷◌, Option, ◌==◌, slice_index_or, slice_set}
use Rattle.std.specs.List as list
use Rattle.std.specs.List.{insert, remove}
use Rattle.few.specs.Listed.{listed}
use Rattle.rules.specs.declared.rule.Rule.{Rule}
use Rattle.table.specs.declared.table.RuleTable.{RuleTable}

-- the rules, in their order
abbrev pub held : RuleTable → List Rule
held t = listed t.rules

-- the position of the first rule with this id
abbrev pub position : ℕ → List Rule → Option ℕ
position id rules = list.position (λ r. r.id == id) rules

-- the rules with the one at i taken out and put back at the position `to`
abbrev pub moved : List Rule → ℕ → ℕ → List Rule
moved [] i to = []
moved (r ∷ rules) i to = insert (remove (r ∷ rules) i) to (slice_index_or (r ∷ rules) i r)

-- the rule on or off
abbrev pub switched : Bool → Rule → Rule
switched on r = record { id = r.id; action = r.action; from = r.from; to = r.to; span = r.span; on = on; id_fits = r.id_fits }

-- the rules with the one at i on or off
abbrev pub switched_at : List Rule → ℕ → Bool → List Rule
switched_at [] i on = []
switched_at (r ∷ rules) i on = slice_set (r ∷ rules) i (switched on (slice_index_or (r ∷ rules) i r))
