-- Two rulesets list the same runs exactly where they decide every packet alike.
use Rattle.std.proofs.Common.{◌≡◌, ℕ, zero, suc, ◌/◌, ◌%◌, ◌^◌, ◌<◌, ◌≤◌, Bool, false, List, [], length, Decides, sym, refl, ap, ◌∙◌, subst, inl, inr, arith, lit<}
use Rattle.std.proofs.lemmas.Nat.{div-add-mod', div_below, mod_below}
use Rattle.std.proofs.lemmas.Bool.{cases_Bool, both_ways}
use Rattle.std.proofs.lemmas.Bool.Decides.{Decides-like}
use Rattle.line.specs.Line.{outline}
use Rattle.service.specs.Ports.{carries_ports}
use Rattle.service.specs.Spans.{service_at, place_of}
use Rattle.packet.specs.Heads.{Head}
use Rattle.plan.specs.Declarations.{Declaration, names_of, network_of}
use Rattle.plan.specs.Accepted.{Accepts}
use Rattle.plan.proofs.Taken.{Taken, taken}
use Rattle.rules.specs.declared.rule.Rule.{Rule}
use Rattle.rules.specs.Decisions.{decision, action_of}
use Rattle.rules.specs.Policies.{policy_of}
use Rattle.rules.proofs.Firsts.{answers_decider}
use Rattle.rules.proofs.Portless.{same_decider}
use Rattle.sheets.specs.Strips.{Right}
use Rattle.sheets.specs.Listed.{runs_at, ListsAlike}
use Rattle.sheets.proofs.Telling.{runs_agree, agree_runs}
use Rattle.ruleset.specs.declared.ruleset.Ruleset.{Ruleset}
use Rattle.ruleset.specs.Compares.{Comparable, ListAlike}
use Rattle.ruleset.specs.Packets.{flow_of, DecideAlike}
use Rattle.ruleset.specs.Views.{rules_of, runs_of}
use Rattle.ruleset.proofs.Rights.{right_of}

-- two lists decide every service of every pair alike
abbrev pub ServicesAlike : ℕ → List Rule → List Rule → Type 0
ServicesAlike networks rules others =
    (from to : ℕ) → from ≤ networks → to ≤ networks → (x : ℕ) → x < 2 ^ 24 → decision rules from to x ≡ decision others from to x

module _ (r o : Ruleset) (both : Comparable r o) where
  pub runs_services : ListAlike r o → ServicesAlike r.sheets.networks (rules_of r) (rules_of o)
  runs_services alike from to a b =
      let e = both.networks in
      runs_agree (rules_of r) (rules_of o) from to _ _ ((right_of r both.ready).drawn from to a b) ((right_of o both.ready_too).drawn from to (omega arith) (omega arith)) (alike from to a b)

  pub services_runs : ServicesAlike r.sheets.networks (rules_of r) (rules_of o) → ListAlike r o
  services_runs alike from to a b =
      let e = both.networks in
      agree_runs (rules_of r) (rules_of o) from to _ _ ((right_of r both.ready).drawn from to a b) ((right_of o both.ready_too).drawn from to (omega arith) (omega arith)) (alike from to a b)

  -- what comparing two tables tells is told of the rulesets
  pub compared : (t : Bool)
      → ((a b : List Rule) → Right a r.sheets.networks r.sheets.depth r.sheets.rows.now → Right b r.sheets.networks o.sheets.depth o.sheets.rows.now → Decides t (ListsAlike a b r.sheets.networks r.sheets.depth r.sheets.rows.now o.sheets.depth o.sheets.rows.now))
      → Decides t (ListAlike r o)
  compared t told =
      let e = both.networks in
      let Like : ℕ → Type 0 =
      λ n. (from to : ℕ) → from ≤ r.sheets.networks → to ≤ r.sheets.networks
      → outline place_of (runs_of r from to) ≡ outline place_of (runs_at (rules_of o) n o.sheets.depth o.sheets.rows.now from to) in
      Decides-like t (λ (x : Like r.sheets.networks). subst Like e x) (λ (y : Like o.sheets.networks). subst Like (sym e) y)
      (told (rules_of r) (rules_of o) (right_of r both.ready) (subst (λ (n : ℕ). Right (rules_of o) n o.sheets.depth o.sheets.rows.now) (sym e) (right_of o both.ready_too)))

-- every network has an address
every_network : (size : ℕ) (ds : List Declaration) → Taken size (names_of ds) (network_of ds) → (n : ℕ) → n ≤ length (names_of ds) → (x : ℕ) × (x < size) × (network_of ds x ≡ n)
every_network size ds t zero le = t.elsewhere
every_network size ds t (suc n) le = t.used (suc n) (omega arith) le

module _ (rules others : List Rule) (size rows : ℕ) (ds : List Declaration) (some : 0 < size) (accepts : Accepts size rows [] ds) where
  pub services_packets : ServicesAlike (length (names_of ds)) rules others → DecideAlike size ds rules others
  services_packets alike h sent =
      let t = taken size rows ds some accepts in
      let inside : service_at h.protocol h.port < 2 ^ 24 = omega (arith, sent.protocol, sent.port) in
      answers_decider rules (flow_of ds h)
      ∙ alike (network_of ds h.source) (network_of ds h.destination) (t.bounded h.source) (t.bounded h.destination) (service_at h.protocol h.port) inside
      ∙ sym (answers_decider others (flow_of ds h))

  -- the packet of a service whose protocol carries ports, and of port 0 where it carries none, goes between any two networks
  at_service : DecideAlike size ds rules others → (from to : ℕ) → from ≤ length (names_of ds) → to ≤ length (names_of ds) → (protocol port : ℕ) → protocol < 256 → port < 65536
      → (carries_ports protocol ≡ false → port ≡ 0) → decision rules from to (service_at protocol port) ≡ decision others from to (service_at protocol port)
  at_service alike from to a b protocol port few fits settled =
      let t = taken size rows ds some accepts in
      let s = every_network size ds t from a in
      let d = every_network size ds t to b in
      let h : Head = record { source = s.0; destination = d.0; protocol = protocol; port = port } in
      let told : (l : List Rule) → policy_of l (flow_of ds h) ≡ decision l from to (service_at protocol port) =
      λ l. answers_decider l (flow_of ds h)
      ∙ ap (λ (x : ℕ). decision l x (network_of ds d.0) (service_at protocol port)) s.2
      ∙ ap (λ (y : ℕ). decision l from y (service_at protocol port)) d.2 in
      sym (told rules) ∙ alike h (record { source = s.1; destination = d.1; protocol = few; port = fits; settled = settled }) ∙ told others

  pub packets_services : DecideAlike size ds rules others → ServicesAlike (length (names_of ds)) rules others
  packets_services alike from to a b x lt =
      let p = x / 65536 in
      let q = x % 65536 in
      let split : service_at p q ≡ x = div-add-mod' x 65536 in
      let few : p < 256 = div_below x 65536 256 (omega arith) (omega arith) in
      let fits : q < 65536 = mod_below x 65536 (omega arith) in
      let Agree : ℕ → Type 0 = λ n. decision rules from to n ≡ decision others from to n in
      subst Agree split
      (elim (cases_Bool (carries_ports p)) [
        | inl t ↦ at_service alike from to a b p q few fits (λ f. absurd (both_ways _ f t))
        | inr f ↦
            ap action_of (same_decider p q 0 few fits (lit< tt) f rules from to) ∙ at_service alike from to a b p 0 few (lit< tt) (λ _. refl) ∙ sym (ap action_of (same_decider p q 0 few fits (lit< tt) f others from to))
      ])

module _ (r o : Ruleset) (both : Comparable r o) (size rows : ℕ) (ds : List Declaration) (some : 0 < size) (accepts : Accepts size rows [] ds) (long : length (names_of ds) ≡ r.sheets.networks) where
  pub runs_packets : ListAlike r o → DecideAlike size ds (rules_of r) (rules_of o)
  runs_packets alike = services_packets (rules_of r) (rules_of o) size rows ds some accepts (λ from to a b. runs_services r o both alike from to (omega arith) (omega arith))

  pub packets_runs : DecideAlike size ds (rules_of r) (rules_of o) → ListAlike r o
  packets_runs alike = services_runs r o both (λ from to a b. packets_services (rules_of r) (rules_of o) size rows ds some accepts alike from to (omega arith) (omega arith))
