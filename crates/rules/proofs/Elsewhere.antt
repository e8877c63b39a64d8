-- An edit leaves alone the pairs that its rule does not cover.
use Rattle.std.proofs.Common.{◌≡◌, ℕ, suc, ◌+◌, ◌<◌, Bool, true, false, cond, ◌&&◌, List, [], ◌∷◌, ◌++◌, length, get_or, take, drop, set, Some, Option, sym, refl, ap, ◌∙◌, add-one}
use Rattle.std.specs.List.{insert, remove}
use Rattle.std.proofs.lemmas.List.{take-append-drop, drop_more, set_split}
use Rattle.std.proofs.lemmas.Bool.{and_left, and_right, cond-false}
use Rattle.rules.specs.declared.rule.Rule.{Rule}
use Rattle.rules.specs.declared.scope.Scope.{Scope}
use Rattle.rules.specs.Decisions.{decides, decider, in_force, covers_pair, scope_of, action_of}
use Rattle.rules.specs.Elsewhere.{AlikeElsewhere}
use Rattle.rules.specs.Policies.{or_else}

never : (r : Rule) (from to x : ℕ) → covers_pair r from to ≡ false → decides r from to x ≡ false
unfolding decides
never r from to x e = and_left (in_force r && covers_pair r from to) _ (and_right (in_force r) _ e)

module _ (from to x : ℕ) where
  append : (a b : List Rule) → decider (a ++ b) from to x ≡ or_else (decider a from to x) (decider b from to x)
  append [] b = refl
  append (r ∷ a) b = ap (λ (o : Option Rule). cond (decides r from to x) (Some r) o) (append a b) ∙ first (decides r from to x)
    where
      first : (t : Bool) → cond t (Some r) (or_else (decider a from to x) (decider b from to x)) ≡ or_else (cond t (Some r) (decider a from to x)) (decider b from to x)
      first true = refl
      first false = refl

  -- a rule that does not cover the pair makes no difference
  without : (a b : List Rule) (r : Rule) → covers_pair r from to ≡ false → decider (a ++ r ∷ b) from to x ≡ decider (a ++ b) from to x
  without a b r e =
      append a (r ∷ b) ∙ ap (or_else (decider a from to x)) (cond-false (decides r from to x) (Some r) (decider b from to x) (never r from to x e)) ∙ sym (append a b)

module _ (rules : List Rule) where
  pub inserted_elsewhere : (i : ℕ) (r : Rule) → AlikeElsewhere (scope_of r) rules (insert rules i r)
  inserted_elsewhere i r from to e x =
      ap action_of (ap (λ (l : List Rule). decider l from to x) (sym (take-append-drop i rules)) ∙ sym (without from to x (take i rules) (drop i rules) r e))

  pub removed_elsewhere : (i : ℕ) (r : Rule) → i < length rules → r ≡ get_or rules i r → AlikeElsewhere (scope_of r) rules (remove rules i)
  removed_elsewhere i r lt read from to e x =
      let split : rules ≡ take i rules ++ r ∷ drop (suc i) rules =
      sym (take-append-drop i rules) ∙ ap (λ (l : List Rule). take i rules ++ l) (drop_more rules i r lt ∙ ap (λ (q : Rule). q ∷ drop (i + 1) rules) (sym read) ∙ ap (λ (n : ℕ). r ∷ drop n rules) (add-one i)) in
      ap action_of (ap (λ (l : List Rule). decider l from to x) split ∙ without from to x (take i rules) (drop (suc i) rules) r e)

  -- the rule at i with another in its place that covers-pair as much
  pub replaced_elsewhere : (i : ℕ) (r other : Rule) → i < length rules → r ≡ get_or rules i r → ((from to : ℕ) → covers_pair other from to ≡ covers_pair r from to) → AlikeElsewhere (scope_of r) rules (set rules i other)
  replaced_elsewhere i r other lt read same from to e x =
      removed_elsewhere i r lt read from to e x
      ∙ sym (ap action_of (ap (λ (l : List Rule). decider l from to x) (set_split rules i other lt) ∙ without from to x (take i rules) (drop (suc i) rules) other (same from to ∙ e)))

pub elsewhere_twice : (s : Scope) (a b c : List Rule) → AlikeElsewhere s a b → AlikeElsewhere s b c → AlikeElsewhere s a c
elsewhere_twice s a b c p q from to e x = p from to e x ∙ q from to e x
