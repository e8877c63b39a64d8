-- The register: the plain list of rules that a ruleset is held to, and what each edit answers and leaves. It never looks at a sheet.
use Rattle.std.specs.Prelude.{ℕ, ◌*◌, Bool, cond, not, ◌&&◌, ◌||◌, List, [], length, is_some, Some, None, Ok, Err, Option, Result, ◌==◌, nat_le, nat_lt}
use Rattle.std.specs.List.{insert, remove}
use Rattle.refusal.specs.declared.refusal.Refusal.{Refusal}
use Rattle.refusal.specs.declared.refusal.Refusal.TheVariants.{Shut, TooManyRules, IdNotFree, NoSuchRule, PositionTooHigh, WrongNetwork, SheetTooLong}
use Rattle.rules.specs.declared.rule.Rule.{Rule}
use Rattle.rules.specs.Ends.{end_known}
use Rattle.sheets.specs.Strips.{pairs_of, fits_all}
use Rattle.table.specs.Held.{position, moved, switched_at}
use Rattle.table.specs.Limits.{most_rules}

-- what the opening was given, whether it was accepted, and the rules in their order
pub record Register : Type 0 where
  pub ready : Bool
  pub networks : ℕ
  pub depth : ℕ
  pub rules : List Rule

-- the register with other rules
abbrev pub with_rules : Register → List Rule → Register
with_rules g rules = record { ready = g.ready; networks = g.networks; depth = g.depth; rules = rules }

-- the sizes that a ruleset may have: at most 24 named networks, a depth of 1 to 64, and for each pair so many rows
abbrev pub sizes_fit : ℕ → ℕ → ℕ → Bool
sizes_fit networks depth rows = nat_le networks 24 && (nat_le 1 depth && (nat_le depth 64 && rows == pairs_of networks * depth))

-- a new register has no rules; with other sizes it is shut
abbrev pub opened : ℕ → ℕ → ℕ → Register
opened networks depth rows = record { ready = sizes_fit networks depth rows; networks = networks; depth = depth; rules = [] }

-- an edit: the changed list, or the first cause against it, other than the length of a sheet
abbrev pub Edit : Type 0
Edit = Result (List Rule) Refusal

-- the first cause against inserting a rule at a position
abbrev pub insert_cause : Register → ℕ → Rule → Option Refusal
insert_cause g at rule =
    cond (not g.ready) (Some Shut)
    (cond (nat_le most_rules (length g.rules)) (Some TooManyRules)
    (cond (rule.id == 0 || is_some (position rule.id g.rules)) (Some IdNotFree)
    (cond (nat_lt (length g.rules) at) (Some PositionTooHigh)
    (cond (end_known rule.from g.networks && end_known rule.to g.networks) None (Some WrongNetwork)))))

-- the value, unless there is a cause against it
abbrev pub unless : {A : Type 0} → Option Refusal → A → Result A Refusal
unless None next = Ok next
unless (Some cause) next = Err cause

-- a rule put in at a position
abbrev pub insert_edit : Register → ℕ → Rule → Edit
insert_edit g at rule = unless (insert_cause g at rule) (insert g.rules at rule)

-- the position, or that there is no such rule
abbrev pub found : Option ℕ → Result ℕ Refusal
found None = Err NoSuchRule
found (Some i) = Ok i

-- the position of the rule with this id
abbrev pub place_of_id : Register → ℕ → Result ℕ Refusal
place_of_id g id = cond g.ready (found (position id g.rules)) (Err Shut)

-- an edit of the rule at a position that is found
abbrev pub then_at : Result ℕ Refusal → (ℕ → Edit) → Edit
then_at (Ok i) next = next i
then_at (Err cause) next = Err cause

-- the rule with this id taken out
abbrev pub remove_edit : Register → ℕ → Edit
remove_edit g id = then_at (place_of_id g id) (λ i. Ok (remove g.rules i))

-- the rule with this id taken out and put back at a position below the number of rules
abbrev pub move_edit : Register → ℕ → ℕ → Edit
move_edit g id to = then_at (place_of_id g id) (λ i. cond (nat_le (length g.rules) to) (Err PositionTooHigh) (Ok (moved g.rules i to)))

-- the rule with this id on or off
abbrev pub switch_edit : Register → ℕ → Bool → Edit
switch_edit g id on = then_at (place_of_id g id) (λ i. Ok (switched_at g.rules i on))

-- what an edit answers: it is refused where the changed list has a pair whose decisions need more runs than the depth
abbrev pub outcome : Register → Edit → Result (Unit {0}) Refusal
outcome g (Err cause) = Err cause
outcome g (Ok next) = cond (fits_all next g.networks g.depth) (Ok tt) (Err SheetTooLong)

-- what an edit leaves: the changed list, or the register as it was where the edit is refused
abbrev pub left_by : Register → Edit → Register
left_by g (Err cause) = g
left_by g (Ok next) = cond (fits_all next g.networks g.depth) (with_rules g next) g

-- the first cause against a question about a pair
abbrev pub pair_cause : Register → ℕ → ℕ → Option Refusal
pair_cause g from to =
    cond (not g.ready) (Some Shut) (cond (nat_lt g.networks from) (Some WrongNetwork) (cond (nat_lt g.networks to) (Some WrongNetwork) None))
