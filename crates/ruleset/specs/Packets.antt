-- What a ruleset decides of a packet, with a plan. A packet counts by its head: the places of its addresses, its protocol and its port.
use Rattle.std.specs.Prelude.{◌≡◌, ℕ, ◌<◌, false, cond, List, length, Ok, Err, Option, Result, ◌==◌}
use Rattle.refusal.specs.declared.refusal.Refusal.{Refusal}
use Rattle.refusal.specs.declared.refusal.Refusal.TheVariants.{Shut, WrongNetwork}
use Rattle.service.specs.Ports.{carries_ports}
use Rattle.service.specs.Spans.{service_at}
use Rattle.packet.specs.Heads.{Head}
use Rattle.plan.specs.declared.plan.Plan.{Plan}
use Rattle.plan.specs.Declarations.{Declaration, names_of, network_of}
use Rattle.plan.specs.Made.{Made, Shut as Plan-shut}
use Rattle.rules.specs.declared.action.Action.{Action}
use Rattle.rules.specs.declared.rule.Rule.{Rule}
use Rattle.rules.specs.Policies.{Flow, policy_of}
use Rattle.ruleset.specs.Registers.{Register}

-- a plan as a call meets it: shut, or made by accepted declarations
pub data Planned : Type 0 where
  shut : Planned
  by : List Declaration → Planned

-- the plan is one of these
abbrev pub Sees : {A : Type 0} → (A → ℕ) → ℕ → Planned → Plan A → Type 0
Sees place size shut p = Plan-shut p
Sees place size (by ds) p = Made place size ds p

-- what the rules see of a packet: the networks of its addresses by the declarations, and its service
abbrev pub flow_of : List Declaration → Head → Flow
flow_of ds h = record { from = network_of ds h.source; to = network_of ds h.destination; service = service_at h.protocol h.port }

-- what the rules decide with a plan of the register's number of networks: the first-fit override of their policies at the packet
abbrev pub decide_by : Register → Planned → Head → Result (Option Action) Refusal
decide_by g shut h = Err Shut
decide_by g (by ds) h = cond (length (names_of ds) == g.networks) (Ok (policy_of g.rules (flow_of ds h))) (Err WrongNetwork)

-- what decide answers
abbrev pub decide_answer : Register → Planned → Head → Result (Option Action) Refusal
decide_answer g plan h = cond g.ready (decide_by g plan h) (Err Shut)

-- the head of a packet of a kind with `size` addresses: its port is 0 where its protocol carries none
pub record Sent (size : ℕ) (h : Head) : Type 0 where
  pub source : h.source < size
  pub destination : h.destination < size
  pub protocol : h.protocol < 256
  pub port : h.port < 65536
  pub settled : carries_ports h.protocol ≡ false → h.port ≡ 0

-- two lists of rules decide every packet alike, the networks going by the declarations
abbrev pub DecideAlike : ℕ → List Declaration → List Rule → List Rule → Type 0
DecideAlike size ds rules others = (h : Head) → Sent size h → policy_of rules (flow_of ds h) ≡ policy_of others (flow_of ds h)
