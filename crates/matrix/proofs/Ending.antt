-- How the load of a text into a new plan ends.
use Rattle.std.proofs.Common.{◌≡◌, ℕ, ◌<◌, ◌≤◌, Bool, true, false, List, [], length, Some, None, Err, Option, Result, sym, refl, ap, ◌∙◌, subst, inl, inr, arith}
use Rattle.std.proofs.lemmas.Bool.{cases_lt}
use Rattle.refusal.specs.declared.refusal.Refusal.TheVariants as cause
use Rattle.refusal.specs.declared.fault.Fault.{Fault}
use Rattle.refusal.specs.Faults.{fault}
use Rattle.plan.specs.declared.plan.Plan.{Plan}
use Rattle.plan.specs.Declarations.{Declaration}
use Rattle.plan.specs.Made.{size_fits, Made, Shut}
use Rattle.planload.specs.Loads.{Loaded, fault_in}
use Rattle.planload.specs.Outcome.{Outcome}
use Rattle.matrix.specs.Answers.{Ends}

pub record Ended {A T : Type 0} (text : A → List ℕ) (place : A → ℕ) (size rows : ℕ) (bytes : List ℕ) (r : Result T Fault) (q : Plan A) : Type 0 where
  pub made : List Declaration
  pub ends : Ends text place size rows bytes made (fault_in r)
  pub plan : fault_in r ≡ None → Made place size made q

some_none : (f : Fault) (o : Option Fault) → o ≡ Some f → o ≡ None → ⊥
some_none f o a b = let z : ◌≡◌ {A = ℕ} 0 1 = cc in omega arith

module _ {A T : Type 0} (text : A → List ℕ) (place : A → ℕ) (size rows : ℕ) (bytes : List ℕ) (r : Result T Fault) (p q : Plan A)
    (made : size_fits rows ≡ true → Made place size [] p)
    (shut : size_fits rows ≡ false → Shut p)
    (long : length p.rows.now ≡ rows)
    (load-shut : Shut p → r ≡ Err (fault cause.Shut 0 0))
    (load-over : 0 < p.count → 16384 < length bytes → r ≡ Err (fault cause.TextTooLong 0 0))
    (loads : (ds : List Declaration) → Made place size ds p → length bytes ≤ 16384 → Outcome text place size ds bytes r q)
    (load-long : length q.rows.now ≡ length p.rows.now) where
  faulted : (f : Fault) → r ≡ Err f → Ends text place size rows bytes [] (Some f) → Ended text place size rows bytes r q
  faulted f is ends = record {
    made = [];
    ends = subst (λ (e : Option Fault). Ends text place size rows bytes [] e) (sym (ap fault_in is)) ends;
    plan = λ none. absurd (some_none f (fault_in r) (ap fault_in is) none);
  }

  by : (b : Bool) → size_fits rows ≡ b → Ended text place size rows bytes r q
  by false h = faulted (fault cause.Shut 0 0) (load-shut (shut h)) (Ends.shut h)
  by true h = elim (cases_lt 16384 (length bytes)) [
    | inl lt ↦ faulted (fault cause.TextTooLong 0 0) (load-over (made h).ready lt) (Ends.long h lt)
    | inr le ↦
        let o = loads [] (made h) le in
        record {
          made = o.made;
          ends = Ends.read o.made (fault_in r) h le (subst (λ (n : ℕ). Loaded text place size n [] bytes o.made (fault_in r)) (load-long ∙ long) o.loads);
          plan = λ _. o.plan;
        }
  ]

  pub ended : Ended text place size rows bytes r q
  ended = by (size_fits rows) refl
