-- The rules do not tell the ports of a protocol apart that carries none.
use Rattle.std.proofs.Common.{◌≡◌, ℕ, ◌<◌, ◌≤◌, Bool, false, cond, ◌&&◌, leb, List, [], ◌∷◌, Some, None, Option, refl, ap, ◌∙◌, inl, inr, arith}
use Rattle.std.proofs.lemmas.Bool.{cases_order}
use Rattle.service.specs.declared.span.Span.{Span}
use Rattle.service.specs.Ports.{carries_ports, has_ports}
use Rattle.service.specs.Spans.{service_at, port_place, span_has}
use Rattle.rules.specs.declared.rule.Rule.{Rule}
use Rattle.rules.specs.Decisions.{decides, decider, in_force, covers_pair}
use Rattle.rules.specs.Policies.{PortsAlike}

module _ (p q o : ℕ) (few : p < 256) (port : q < 65536) (other : o < 65536) (bare : carries_ports p ≡ false) where
  same_first : (r : Option ℕ) (low high : ℕ) → low ≤ high → high < 65536 → (has_ports r ≡ false → (low ≡ 0) × (high ≡ 65535))
      → leb (port_place r low 0) (service_at p q) ≡ leb (port_place r low 0) (service_at p o)
  same_first None low high le fits full = grind arith
  same_first (Some r) low high le fits full =
      elim (cases_order r p) [
        | inl e ↦ let f = full (ap carries_ports e ∙ bare) in grind arith
        | inr (inl lt) ↦ grind arith
        | inr (inr gt) ↦ grind arith
      ]

  same_last : (r : Option ℕ) (low high : ℕ) → low ≤ high → high < 65536 → (has_ports r ≡ false → (low ≡ 0) × (high ≡ 65535))
      → leb (service_at p q) (port_place r high 16777215) ≡ leb (service_at p o) (port_place r high 16777215)
  same_last None low high le fits full = grind arith
  same_last (Some r) low high le fits full =
      elim (cases_order r p) [
        | inl e ↦ let f = full (ap carries_ports e ∙ bare) in grind arith
        | inr (inl lt) ↦ grind arith
        | inr (inr gt) ↦ grind arith
      ]

  same_span : (s : Span) → span_has s (service_at p q) ≡ span_has s (service_at p o)
  same_span s =
      let a = same_first s.protocol s.low s.high s.ordered s.fits s.full in
      let b = same_last s.protocol s.low s.high s.ordered s.fits s.full in
      ap (λ (t : Bool). t && leb (service_at p q) (port_place s.protocol s.high 16777215)) a
      ∙ ap (λ (t : Bool). leb (port_place s.protocol s.low 0) (service_at p o) && t) b

  same_decides : (r : Rule) (from to : ℕ) → decides r from to (service_at p q) ≡ decides r from to (service_at p o)
  unfolding decides
  same_decides r from to = ap (λ (t : Bool). (in_force r && covers_pair r from to) && t) (same_span r.span)

  pub same_decider : (rules : List Rule) (from to : ℕ) → decider rules from to (service_at p q) ≡ decider rules from to (service_at p o)
  same_decider [] from to = refl
  same_decider (r ∷ rules) from to =
      ap (λ (b : Bool). cond b (Some r) (decider rules from to (service_at p q))) (same_decides r from to)
      ∙ ap (λ (d : Option Rule). cond (decides r from to (service_at p o)) (Some r) d) (same_decider rules from to)

pub ports_alike : (rule : Rule) → PortsAlike rule
ports_alike rule protocol port other few fits fits-too bare = same_span protocol port other few fits fits-too bare rule.span
