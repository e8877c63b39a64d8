-- The decider is the first rule that decides.
use Rattle.std.proofs.Common.{◌≡◌, ℕ, zero, suc, ◌<◌, Bool, true, false, cond, List, [], ◌∷◌, length, get_or, Some, None, Option, sym, refl, ap, ◌∙◌, subst, inl, inr, arith}
use Rattle.std.proofs.lemmas.Bool.{cases_Bool}
use Rattle.rules.specs.declared.rule.Rule.{Rule}
use Rattle.rules.specs.Decisions.{decides, decider, action_of}
use Rattle.rules.specs.Policies.{AnswersDecider, First, FirstDecides, rule_policy, or_else}

one : (b : Bool) (r : Rule) (rest : Option Rule) → or_else (cond b (Some r.action) None) (action_of rest) ≡ action_of (cond b (Some r) rest)
one true r rest = refl
one false r rest = refl

pub answers_decider : (rules : List Rule) → AnswersDecider rules
answers_decider [] packet = refl
answers_decider (r ∷ rules) packet =
    ap (or_else (rule_policy r packet)) (answers_decider rules packet) ∙ one (decides r packet.from packet.to packet.service) r (decider rules packet.from packet.to packet.service)

module _ (from to x : ℕ) where
  found : (rules : List Rule) (r : Rule) → decider rules from to x ≡ Some r → First rules from to x r
  found [] r e = let z : ◌≡◌ {A = ℕ} 0 1 = cc in absurd (omega arith)
  found (q ∷ rules) r e =
      elim (cases_Bool (decides q from to x)) [
        | inl t ↦
            let some : cond (decides q from to x) (Some q) (decider rules from to x) ≡ Some q = rw t in
            let same : q ≡ r = cc in
            record { at = 0; inside = omega arith; is = same; this = subst (λ (p : Rule). decides p from to x ≡ true) same t; before = λ k h. absurd (omega arith) }
        | inr f ↦
            let rest : cond (decides q from to x) (Some q) (decider rules from to x) ≡ decider rules from to x = rw f in
            let later = found rules r (sym rest ∙ e) in
            record { at = suc later.at; inside = let h = later.inside in omega arith; is = later.is; this = later.this; before = λ k h. earlier later f k h }
      ]
    where
      earlier : (later : First rules from to x r) → decides q from to x ≡ false → (k : ℕ) → k < suc later.at → decides (get_or (q ∷ rules) k r) from to x ≡ false
      earlier later f zero h = f
      earlier later f (suc k) h = later.before k (omega arith)

  none : (rules : List Rule) → decider rules from to x ≡ None → (k : ℕ) (d : Rule) → k < length rules → decides (get_or rules k d) from to x ≡ false
  none [] e k d h = absurd (omega arith)
  none (q ∷ rules) e k d h =
      elim (cases_Bool (decides q from to x)) [
        | inl t ↦
            let some : cond (decides q from to x) (Some q) (decider rules from to x) ≡ Some q = rw t in
            let z : ◌≡◌ {A = ℕ} 0 1 = cc in absurd (omega arith)
        | inr f ↦
            let rest : cond (decides q from to x) (Some q) (decider rules from to x) ≡ decider rules from to x = rw f in
            at (λ k h. none rules (sym rest ∙ e) k d h) k h f
      ]
    where
      at : ((k : ℕ) → k < length rules → decides (get_or rules k d) from to x ≡ false) → (k : ℕ) → k < length (q ∷ rules) → decides q from to x ≡ false → decides (get_or (q ∷ rules) k d) from to x ≡ false
      at later zero h f = f
      at later (suc k) h f = later k (omega arith)

pub first_decides : (rules : List Rule) → FirstDecides rules
first_decides rules = record { found = λ from to x r e. found from to x rules r e; none = λ from to x e. none from to x rules e }
