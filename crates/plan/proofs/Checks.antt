-- The checks before those of the addresses.
use Rattle.std.proofs.Common.{◌≡◌, ℕ, Bool, true, false, ltb, List, Some, None, sym, subst, arith, ltb-false, ltb-true}
use Rattle.refusal.specs.declared.refusal.Refusal.{Refusal}
use Rattle.refusal.specs.declared.refusal.Refusal.TheVariants.{RangeReversed, FieldMalformed, TooManyNames}
use Rattle.names.specs.Names.{number_in, well_formed}
use Rattle.plan.specs.Declarations.{Declaration, names_of}
use Rattle.plan.specs.Accepted.{Sane, Refused}
use Rattle.plan.specs.Edits.{first_cause}

module _ (ds : List Declaration) (d : Declaration) (n : ℕ) (is : n ≡ number_in (names_of ds) d.name) where
  pub cause_refuses : (size rows : ℕ) (f r k : Bool) (e : Refusal) → f ≡ well_formed d.name → r ≡ ltb d.high d.low → k ≡ ltb 24 n
      → Some e ≡ first_cause f r k → Refused size rows ds d e
  cause_refuses size rows false r k e a b c h =
      let same : FieldMalformed ≡ e = cc in subst (λ (w : Refusal). Refused size rows ds d w) same (Refused.malformed (sym a))
  cause_refuses size rows true true k e a b c h =
      let same : RangeReversed ≡ e = cc in subst (λ (w : Refusal). Refused size rows ds d w) same (Refused.reversed (sym a) (ltb-true _ _ (sym b)))
  cause_refuses size rows true false true e a b c h =
      let same : TooManyNames ≡ e = cc in
      let many = ltb-true 24 n (sym c) in
      subst (λ (w : Refusal). Refused size rows ds d w) same (Refused.crowded (sym a) (ltb-false _ _ (sym b)) (omega arith))
  cause_refuses size rows true false false e a b c h = let z : ◌≡◌ {A = ℕ} 0 1 = cc in absurd (omega arith)

  pub none_sane : (f r k : Bool) → f ≡ well_formed d.name → r ≡ ltb d.high d.low → k ≡ ltb 24 n → None ≡ first_cause f r k → Sane ds d
  none_sane false r k a b c h = let z : ◌≡◌ {A = ℕ} 0 1 = cc in absurd (omega arith)
  none_sane true true k a b c h = let z : ◌≡◌ {A = ℕ} 0 1 = cc in absurd (omega arith)
  none_sane true false true a b c h = let z : ◌≡◌ {A = ℕ} 0 1 = cc in absurd (omega arith)
  none_sane true false false a b c h = let few = ltb-false 24 n (sym c) in record { formed = sym a; ordered = ltb-false _ _ (sym b); few = omega arith }
