-- Rules as policies: partial functions from packets to actions, laid over one another by first-fit override.
use Rattle.std.specs.Prelude.{◌≡◌, ℕ, ◌<◌, true, false, cond, List, [], ◌∷◌, map, length, get_or, Some, None, Option, slice_index_or}
use Rattle.service.specs.Ports.{carries_ports}
use Rattle.service.specs.Spans.{service_at}
use Rattle.rules.specs.declared.action.Action.{Action}
use Rattle.rules.specs.declared.rule.Rule.{Rule}
use Rattle.rules.specs.Decisions.{covers_service, decides, decider, action_of}

-- a packet as rules see it: the networks of its source and its destination, and the place of its service
pub record Flow : Type 0 where
  pub from : ℕ
  pub to : ℕ
  pub service : ℕ

-- a policy answers some packets with an action, and is silent of the others
abbrev pub Policy : Type 0
Policy = Flow → Option Action

-- the first answer unless it is none, and else the second
abbrev pub or_else : {A : Type 0} → Option A → Option A → Option A
or_else None b = b
or_else (Some a) b = Some a

-- p laid over q: p's answer, and q's where p is silent
abbrev pub override : Policy → Policy → Policy
override p q packet = or_else (p packet) (q packet)

-- the policies laid over one another, the first on top of all
abbrev pub first_fit : List Policy → Policy
first_fit [] = λ _. None
first_fit (p ∷ ps) = override p (first_fit ps)

-- the policy of a rule: its action where it is in force and covers the packet
abbrev pub rule_policy : Rule → Policy
rule_policy r packet = cond (decides r packet.from packet.to packet.service) (Some r.action) None

-- the policy of a list of rules: the first-fit override of their policies
abbrev pub policy_of : List Rule → Policy
policy_of rules = first_fit (map rule_policy rules)

-- the policy of the rules answers the action of the decider
abbrev pub AnswersDecider : List Rule → Type 0
AnswersDecider rules = (packet : Flow) → policy_of rules packet ≡ action_of (decider rules packet.from packet.to packet.service)

-- the rule r stands at the position `at` and decides, and no rule before it does
pub record First (rules : List Rule) (from to x : ℕ) (r : Rule) : Type 0 where
  pub at : ℕ
  pub inside : at < length rules
  pub is : get_or rules at r ≡ r
  pub this : decides r from to x ≡ true
  pub before : (k : ℕ) → k < at → decides (slice_index_or rules k r) from to x ≡ false

-- the decider is the first rule in force that covers, and there is none only where no rule does
pub record FirstDecides (rules : List Rule) : Type 0 where
  pub found : (from to x : ℕ) (r : Rule) → decider rules from to x ≡ Some r → First rules from to x r
  pub none : (from to x : ℕ) → decider rules from to x ≡ None → (k : ℕ) (d : Rule) → k < length rules → decides (slice_index_or rules k d) from to x ≡ false

-- of a protocol that carries no ports the rule covers all ports or none
abbrev pub PortsAlike : Rule → Type 0
PortsAlike r =
    (protocol port other : ℕ) → protocol < 256 → port < 65536 → other < 65536 → carries_ports protocol ≡ false
    → covers_service r (service_at protocol port) ≡ covers_service r (service_at protocol other)
