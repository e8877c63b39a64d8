-- What the text of a plan says is accepted, and says the plan.
use Rattle.std.proofs.Common.{◌≡◌, ℕ, ◌+◌, ◌<◌, ◌≤◌, Bool, true, false, cond, eqb, List, [], ◌∷◌, ◌++◌, length, sym, refl, ap, ◌∙◌, subst, inl, inr, arith}
use Rattle.std.specs.List.{AllByRecursion}
use Rattle.std.proofs.lemmas.List.{append-nil, append_assoc, length-append}
use Rattle.std.proofs.lemmas.Bool.{eqb-true, eqb-false}
use Rattle.line.specs.declared.run.Run.{Run}
use Rattle.line.specs.Line.{Joined, Painted, Line}
use Rattle.line.proofs.Lines.{joined_le}
use Rattle.line.proofs.Rows.{joined_push, painted_push}
use Rattle.names.specs.Names.{number_in, well_formed}
use Rattle.plan.specs.Declarations.{Declaration, names_of, network_of}
use Rattle.plan.specs.Accepted.{Accepted, Accepts}
use Rattle.plan.proofs.Apart.{Apart, names_apart}
use Rattle.plan.proofs.Taken.{Taken, taken}
use Rattle.planwrite.specs.Written.{said_of, net_said, nets_said, plan_said}
use Rattle.planwrite.specs.Same.{Same}
use Rattle.planwrite.proofs.Shown.{shown, shown_none, shown_all, shown_next}
use Rattle.planwrite.proofs.Stages.{Stage, stage_pass, stage_said, said_accepted}

-- after `front` each of `more` is accepted in its turn, and together they say the plan ds
Tells : ℕ → ℕ → List Declaration → List Declaration → List Declaration → Type 0
Tells size rows ds front more = Accepts size rows front more × Same size ds (front ++ more)

module _ (size rows : ℕ) (ds : List Declaration) where
  tells_done : (front : List Declaration) → Same size ds front → Tells size rows ds front []
  unfolding Tells
  tells_done front s = (tt, subst (λ (es : List Declaration). Same size ds es) (sym (append-nil front)) s)

  tells_more : (front : List Declaration) (d : Declaration) (more : List Declaration) → Accepted size rows front d → Tells size rows ds (front ++ d ∷ []) more
      → Tells size rows ds front (d ∷ more)
  unfolding Tells
  tells_more front d more a t = ((a, t.0), subst (λ (es : List Declaration). Same size ds es) (append_assoc front (d ∷ []) more) t.1)

module _ {A : Type 0} (place : A → ℕ) (size rows : ℕ) (ds : List Declaration) (t : Taken size (names_of ds) (network_of ds)) where
  -- the runs of one network
  module _ (ns : List (List ℕ)) (name : List ℕ) (n : ℕ) (new : number_in ns name ≡ length ns + 1) (counts : n ≡ length ns + 1)
      (formed : well_formed name ≡ true) (few : n ≤ length (names_of ds)) (rest : List Declaration)
      (then : (front : List Declaration) → names_of front ≡ ns ++ name ∷ [] → ((x : ℕ) → x < size → network_of front x ≡ shown (n + 1) 0 (network_of ds x) x)
      → Tells size rows ds front rest) where
    net_tells : (p : ℕ) (before after : List (Run A ℕ)) (front : List Declaration) → Stage size (network_of ds) ns name n p front
        → Joined place p 0 before → Painted place (network_of ds) before → Joined place size p after → Painted place (network_of ds) after
        → length before + length after ≤ rows → Tells size rows ds front (net_said place n name after ++ rest)
    net_tells p before [] front s j q k u most =
        let x = t.used n (omega arith) few in
        then front
        (elim s.names [ inl c ↦ absurd (c.1 x.0 (let b = x.1 in omega arith) x.2) | inr e ↦ e ])
        (λ y lt. s.labels y lt ∙ shown_next n p (network_of ds y) y (omega arith))
    net_tells p before (r ∷ after) front s j q k u most =
        by (eqb r.label n) refl
        (λ next s'. net_tells (place r.high + 1) (before ++ r ∷ []) after next s'
        (joined_push place p 0 before r j k.0 k.1) (painted_push place (network_of ds) before r q u.0) k.2 u.1 (let len = length-append before (r ∷ []) in omega arith))
      where
        by : (b : Bool) → eqb r.label n ≡ b
            → ((next : List Declaration) → Stage size (network_of ds) ns name n (place r.high + 1) next → Tells size rows ds next (net_said place n name after ++ rest))
            → Tells size rows ds front (cond b (said_of place name r ∷ net_said place n name after) (net_said place n name after) ++ rest)
        by true h more =
            let le = joined_le place size (place r.high + 1) after k.2 in
            let is = eqb-true r.label n h in
            let small = t.few in
            tells_more size rows ds front (said_of place name r) (net_said place n name after ++ rest)
            (said_accepted place size (network_of ds) ns name n p front r s k.0 u.0 (omega arith) is new counts
            rows before after j q k.2 u.1 (omega arith) formed (omega arith) t.elsewhere)
            (more (front ++ said_of place name r ∷ []) (stage_said place size (network_of ds) ns name n p front r s k.0 u.0 (omega arith) is new counts))
        by false h more =
            let le = joined_le place size (place r.high + 1) after k.2 in
            more front (stage_pass place size (network_of ds) ns name n p front r s k.0 u.0 (omega arith) (eqb-false r.label n h))

  -- the networks from the number n on
  nets_tell : (runs : List (Run A ℕ)) → Joined place size 0 runs → Painted place (network_of ds) runs → length runs ≤ rows
      → (ns more : List (List ℕ)) (n : ℕ) (front : List Declaration) → n ≡ length ns + 1 → ns ++ more ≡ names_of ds → Apart ns more
      → AllByRecursion (λ (m : List ℕ). well_formed m ≡ true) more → names_of front ≡ ns → ((x : ℕ) → x < size → network_of front x ≡ shown n 0 (network_of ds x) x)
      → Tells size rows ds front (nets_said place n more runs)
  nets_tell runs j q most ns [] n front counts all apart formed names labels =
      let whole : ns ≡ names_of ds = sym (append-nil ns) ∙ all in
      let len = ap (λ (zs : List (List ℕ)). length zs) whole in
      tells_done size rows ds front (record {
        names = names ∙ whole;
        line = λ x lt. labels x lt ∙ (let b = t.bounded x in shown_all n (network_of ds x) x (omega arith));
      })
  nets_tell runs j q most ns (name ∷ more) n front counts all apart formed names labels =
      let len = ap (λ (zs : List (List ℕ)). length zs) all in
      let both = length-append ns (name ∷ more) in
      let one = length-append ns (name ∷ []) in
      net_tells ns name n apart.0 counts formed.0 (omega arith) (nets_said place (n + 1) more runs)
      (λ after named labelled. nets_tell runs j q most (ns ++ name ∷ []) more (n + 1) after (omega arith) (append_assoc ns (name ∷ []) more ∙ all) apart.1 formed.1 named labelled)
      0 [] runs front (record { names = inl (names, λ x lt e. omega arith); labels = labels }) refl tt j q (omega arith)

-- the text of a plan, read into a new plan with as many rows, makes the same plan
pub told_again : {A : Type 0} (place : A → ℕ) (size rows : ℕ) (ds : List Declaration) (runs : List (Run A ℕ)) → 0 < size → Accepts size rows [] ds
    → Line place size (network_of ds) runs → length runs ≤ rows
    → Accepts size rows [] (plan_said place (names_of ds) runs) × Same size ds (plan_said place (names_of ds) runs)
unfolding Tells
told_again place size rows ds runs pos accepts line most =
    let t = taken size rows ds pos accepts in
    nets_tell place size rows ds t runs line.joined line.painted most [] (names_of ds) 1 [] refl refl (names_apart ds) t.formed refl
    (λ x lt. sym (shown_none (network_of ds x) x))
