-- What a rule covers, when it is in force, and which rule of a list decides. A packet counts by its networks `from` and `to` and the place x of its service.
use Rattle.std.specs.Prelude.{ℕ, Bool, cond, ◌&&◌, List, [], ◌∷◌, Some, None, Option}
use Rattle.std.specs.Option.{option_map}
use Rattle.service.specs.Spans.{span_has}
use Rattle.rules.specs.declared.action.Action.{Action}
use Rattle.rules.specs.declared.rule.Rule.{Rule}
use Rattle.rules.specs.declared.scope.Scope.{Scope}
use Rattle.rules.specs.Ends.{end_has}

-- a rule is in force when it is on
abbrev pub in_force : Rule → Bool
in_force r = r.on

-- a rule covers a pair of networks when its from and its to contain them
abbrev pub covers_pair : Rule → ℕ → ℕ → Bool
covers_pair r from to = end_has r.from from && end_has r.to to

-- the pairs that a rule covers
abbrev pub scope_of : Rule → Scope
scope_of r = record { from = r.from; to = r.to }

-- a rule covers a service when its span has it
abbrev pub covers_service : Rule → ℕ → Bool
covers_service r x = span_has r.span x

-- a rule decides a packet, if no other does before it, when it is in force and covers its pair and its service
unfoldable pub decides : Rule → ℕ → ℕ → ℕ → Bool
decides r from to x = (in_force r && covers_pair r from to) && covers_service r x

-- the first rule in force that covers the packet
abbrev pub decider : List Rule → ℕ → ℕ → ℕ → Option Rule
decider [] from to x = None
decider (r ∷ rules) from to x = cond (decides r from to x) (Some r) (decider rules from to x)

-- the action of a rule, if there is one
abbrev pub action_of : Option Rule → Option Action
action_of = option_map (λ r. r.action)

-- the id of a rule, if there is one
abbrev pub id_of : Option Rule → Option ℕ
id_of = option_map (λ r. r.id)

-- what is told of the decider, or none
abbrev pub told_by : {L : Type 0} → (Rule → L) → List Rule → ℕ → ℕ → ℕ → Option L
told_by told rules from to x = option_map told (decider rules from to x)

-- what the rules decide: the action of the decider, or none
abbrev pub decision : List Rule → ℕ → ℕ → ℕ → Option Action
decision rules from to x = action_of (decider rules from to x)

-- which rule decides: the id of the decider, or none
abbrev pub decider_id : List Rule → ℕ → ℕ → ℕ → Option ℕ
decider_id rules from to x = id_of (decider rules from to x)
