-- One pass over the rules, which finds the decider and how far it decides.
use Rattle.std.proofs.Common.{◌≡◌, ℕ, ◌+◌, ◌<◌, ◌≤◌, Bool, true, false, cond, ◌&&◌, leb, ltb, List, ◌∷◌, length, get_or, drop, Some, sym, ap, ◌∙◌, arith}
use Rattle.std.proofs.lemmas.Bool.{and_left, and_right, and_from, cond-true, cond-false, lt-leb, le-leb}
use Rattle.std.proofs.lemmas.List.{drop_more}
use Rattle.std.specs.Ordering.{partial_lt, partial_le}
use Rattle.line.specs.Line.{Keeps}
use Rattle.rules.specs.declared.rule.Rule.{Rule}
use Rattle.service.specs.Spans.{place_of, first_place, last_place}
use Rattle.service.specs.declared.service.Service.{Service}
use Rattle.service.specs.contracts.service.ServicePartialOrd.TheImpl.{ghosts as services}
use Rattle.rules.specs.Decisions.{decides, decider, in_force, covers_pair}

-- what `<` and `<=` say of the places of two services
pub lt_places : (a b : Service) (r : Bool) → r ≡ partial_lt services.partial_cmp a b → r ≡ ltb (place_of a) (place_of b)
lt_places a b r e = let p = a.port_fits in let q = b.port_fits in grind arith

pub le_places : (a b : Service) (r : Bool) → r ≡ partial_le services.partial_cmp a b → r ≡ leb (place_of a) (place_of b)
le_places a b r e = let p = a.port_fits in let q = b.port_fits in grind arith

module _ (r : Rule) (from to x : ℕ) where
  pub off : (in_force r && covers_pair r from to) ≡ false → decides r from to x ≡ false
  unfolding decides
  off e = and_left _ _ e

  pub too_low : x < first_place r.span → decides r from to x ≡ false
  unfolding decides
  too_low h = and_right (in_force r && covers_pair r from to) _ (and_left _ _ (lt-leb _ _ h))

  pub too_high : last_place r.span < x → decides r from to x ≡ false
  unfolding decides
  too_high h = and_right (in_force r && covers_pair r from to) _ (and_right (leb (first_place r.span) x) _ (lt-leb _ _ h))

  pub on : (in_force r && covers_pair r from to) ≡ true → first_place r.span ≤ x → x ≤ last_place r.span → decides r from to x ≡ true
  unfolding decides
  on e a b = and_from _ _ e (and_from _ _ (le-leb _ _ a) (le-leb _ _ b))

-- from s to end the first i rules do not decide
pub record Passed (rules : List Rule) (i from to s end : ℕ) : Type 0 where
  pub ordered : s ≤ end
  pub same : (x : ℕ) → s ≤ x → x ≤ end → decider rules from to x ≡ decider (drop i rules) from to x

module _ (rules : List Rule) (from to s : ℕ) where
  module _ (i : ℕ) (r : Rule) (end : ℕ) (lt : i < length rules) (read : r ≡ get_or rules i r) (inv : Passed rules i from to s end) where
    step : (x : ℕ) → s ≤ x → x ≤ end → decider rules from to x ≡ cond (decides r from to x) (Some r) (decider (drop (i + 1) rules) from to x)
    step x a b =
        let split : drop i rules ≡ r ∷ drop (i + 1) rules = drop_more rules i r lt ∙ ap (λ (q : Rule). q ∷ drop (i + 1) rules) (sym read) in
        inv.same x a b ∙ ap (λ (l : List Rule). decider l from to x) split

    pub passed_more : (next : ℕ) → s ≤ next → next ≤ end → ((x : ℕ) → s ≤ x → x ≤ next → decides r from to x ≡ false) → Passed rules (i + 1) from to s next
    passed_more next a b not-here =
        record { ordered = a; same = λ x p q. step x p (omega arith) ∙ cond-false _ _ _ (not-here x p q) }

    pub passed_found : (next : ℕ) → s ≤ next → next ≤ end → ((x : ℕ) → s ≤ x → x ≤ next → decides r from to x ≡ true) → Keeps (decider rules from to) (Some r) s next
    passed_found next a b here =
        record { ordered = a; labelled = λ x p q. step x p (omega arith) ∙ cond-true _ _ _ (here x p q) }
