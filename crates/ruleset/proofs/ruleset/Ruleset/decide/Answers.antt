use Rattle.std.proofs.Common.{◌≡◌, ℕ, sym, ap, ◌∙◌, arith}
use Rattle.std.proofs.lemmas.Bool.{eq-eqb, both_ways}
use Rattle.service.specs.Spans.{place_of}
use Rattle.packet.specs.Heads.{head_of}
use Rattle.plan.specs.Declarations.{network_of}
use Rattle.rules.specs.Decisions.{decision}
use Rattle.ruleset.specs.Packets.{shut, by}
use Rattle.ruleset.specs.Views.{register_of, rules_of}
use Rattle.ruleset.proofs.Told.{decided, network_most, pair_there, not_stopped}
use Rattle.ruleset.proofs.ruleset.Ruleset.decide.Goals as goal

pub returns-in_err-check_pair : goal.returns-in_err-check_pair
returns-in_err-check_pair g c shut sees = absurd (both_ways _ (sym c.if-is_shut.ensures) (eq-eqb _ _ sees))
returns-in_err-check_pair g c (by ds) made =
    let inside = g.met.A.Point.inside c.source.result in
    let most-from = network_most g.A.Point.place g.A.Point.size ds c.args.plan.now (omega arith) made (g.A.Point.place c.source.result) in
    let most-to = network_most g.A.Point.place g.A.Point.size ds c.args.plan.now (omega arith) made (g.A.Point.place c.destination.result) in
    let networks = c.networks.ensures.told ds made in
    let told-from = c.in_ok-from.ensures.told ds made in
    let told-to = c.in_ok-to.ensures.told ds made in
    let from : c.in_ok-from.from ≡ network_of ds (g.A.Point.place c.source.result) = cc in
    let to : c.in_ok-to.to ≡ network_of ds (g.A.Point.place c.destination.result) = cc in
    let there = pair_there (register_of c.args.self.now) c.in_ok-from.from c.in_ok-to.to c.in_ok-check_ready.ensures (omega (arith, c.if-networks-self.false)) (omega (arith, c.if-networks-self.false)) in
    absurd (not_stopped _ c.check_pair.result c.in_err-check_pair.field-0.0 c.check_pair.ensures c.in_err-check_pair.was there)

pub returns : goal.returns
returns g c shut sees = absurd (both_ways _ (sym c.if-is_shut.ensures) (eq-eqb _ _ sees))
returns g c (by ds) made =
    let s = c.args.self.now in
    let place = g.A.Point.place in
    let packet = c.args.packet.now in
    let h = head_of place packet in
    let networks = c.networks.ensures.told ds made in
    let told-from = c.in_ok-from.ensures.told ds made in
    let told-to = c.in_ok-to.ensures.told ds made in
    let at_from : c.in_ok-from.from ≡ network_of ds (place c.source.result) = cc in
    let at-to : c.in_ok-to.to ≡ network_of ds (place c.destination.result) = cc in
    let from : c.in_ok-from.from ≡ network_of ds (place packet.source) = at_from ∙ ap (λ a. network_of ds (place a)) c.source.ensures in
    let to : c.in_ok-to.to ≡ network_of ds (place packet.destination) = at-to ∙ ap (λ a. network_of ds (place a)) c.destination.ensures in
    decided (register_of s) ds h c.decision_at.result c.in_ok-check_ready.ensures (sym networks ∙ c.if-networks-self.false)
    (c.decision_at.ensures
    ∙ ap (λ (n : ℕ). decision (rules_of s) n c.in_ok-to.to (place_of c.service.result)) from
    ∙ ap (λ (n : ℕ). decision (rules_of s) (network_of ds (place packet.source)) n (place_of c.service.result)) to
    ∙ ap (decision (rules_of s) (network_of ds (place packet.source)) (network_of ds (place packet.destination))) c.service.ensures.place)
