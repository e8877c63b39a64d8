-- The text of a plan read up to some run: the declarations so far, and the next one.
use Rattle.std.proofs.Common.{◌≡◌, ℕ, ◌+◌, ◌<◌, ◌≤◌, true, eqb, ◌⊎◌, List, [], ◌∷◌, ◌++◌, length, sym, ap, ◌∙◌, inl, inr, arith}
use Rattle.std.proofs.lemmas.List.{length-append}
use Rattle.std.proofs.lemmas.Bool.{cases_lt}
use Rattle.line.specs.declared.run.Run.{Run}
use Rattle.line.specs.Line.{Keeps, Joined, Painted, runs_needed}
use Rattle.line.proofs.Rows.{joined_push, painted_push}
use Rattle.names.specs.Names.{number_in, with_name, well_formed}
use Rattle.plan.specs.Declarations.{Declaration, names_of, network_of}
use Rattle.plan.specs.Accepted.{Free, Remains, Accepted}
use Rattle.plan.proofs.Snoc.{number_push, names_snoc, network_snoc}
use Rattle.plan.proofs.Apart.{with_there, with_next}
use Rattle.plan.proofs.Taken.{over_in, over_out}
use Rattle.planwrite.specs.Written.{said_of}
use Rattle.planwrite.proofs.Shown.{shown, shown_elsewhere, shown_wait, shown_here, shown_other, shown_before, shown_after, shown_past, shown_passed}
use Rattle.planwrite.proofs.Relabelled.{needed_both}

-- `front` says the networks below n, whose names are ns, and of network n the runs before the place p; its name is there as soon as one of them is
pub record Stage (size : ℕ) (f : ℕ → ℕ) (ns : List (List ℕ)) (name : List ℕ) (n p : ℕ) (front : List Declaration) : Type 0 where
  pub names : ((names_of front ≡ ns) × ((x : ℕ) → x < p → f x ≡ n → ⊥)) ⊎ (names_of front ≡ ns ++ name ∷ [])
  pub labels : (x : ℕ) → x < size → network_of front x ≡ shown n p (f x) x

-- the run after the place p, in a plan with the labelling f
module _ {A : Type 0} (place : A → ℕ) (size : ℕ) (f : ℕ → ℕ) (ns : List (List ℕ)) (name : List ℕ) (n p : ℕ) (front : List Declaration) (r : Run A ℕ)
    (s : Stage size f ns name n p front) (begins : place r.low ≡ p) (keeps : Keeps f r.label (place r.low) (place r.high))
    (inside : place r.high < size) where
  -- is passed over if it is of another network
  pub stage_pass : (r.label ≡ n → ⊥) → Stage size f ns name n (place r.high + 1) front
  stage_pass other = record {
    names = elim s.names [
      | inl c ↦ inl (c.0, λ x lt e. elim (cases_lt x p) [ inl a ↦ c.1 x a e | inr a ↦ other (sym (keeps.labelled x (omega arith) (omega arith)) ∙ e) ])
      | inr e ↦ inr e
    ];
    labels = λ x lt. s.labels x lt ∙ elim (cases_lt x p) [
      | inl a ↦ let o = keeps.ordered in shown_passed n p (place r.high + 1) (f x) x a (omega arith)
      | inr a ↦ elim (cases_lt (place r.high) x) [
        | inl b ↦ shown_past n p (place r.high + 1) (f x) x a (omega arith)
        | inr b ↦ shown_other n p (place r.high + 1) (f x) x (λ e. other (sym (keeps.labelled x (omega arith) b) ∙ e))
      ]
    ];
  }

  module _ (is : r.label ≡ n) (new : number_in ns name ≡ length ns + 1) (counts : n ≡ length ns + 1) where
    labelled : (x : ℕ) → place r.low ≤ x → x ≤ place r.high → f x ≡ n
    labelled x a b = keeps.labelled x a b ∙ is

    numbered : number_in (names_of front) name ≡ n
    numbered =
        elim s.names [
          | inl c ↦ ap (λ (zs : List (List ℕ)). number_in zs name) c.0 ∙ new ∙ sym counts
          | inr e ↦ ap (λ (zs : List (List ℕ)). number_in zs name) e ∙ number_push ns name ∙ new ∙ sym counts
        ]

    named : names_of (front ++ said_of place name r ∷ []) ≡ ns ++ name ∷ []
    named =
        names_snoc front (said_of place name r) ∙ elim s.names [
          | inl c ↦ ap (λ (zs : List (List ℕ)). with_name zs name) c.0 ∙ with_next ns name new
          | inr e ↦ ap (λ (zs : List (List ℕ)). with_name zs name) e
              ∙ with_there (ns ++ name ∷ []) name (omega (arith, number_push ns name, length-append ns (name ∷ [])))
        ]

    free : Free (network_of front) (place r.low) (place r.high)
    free = λ x a b. s.labels x (omega arith) ∙ ap (λ (v : ℕ). shown n p v x) (labelled x a b) ∙ shown_wait n p x (omega arith)

    showing : (x : ℕ) → x < size → network_of (front ++ said_of place name r ∷ []) x ≡ shown n (place r.high + 1) (f x) x
    showing x lt =
        let o = keeps.ordered in
        sym (network_snoc front (said_of place name r) free x)
        ∙ elim (cases_lt x (place r.low)) [
          | inl a ↦ over_out (network_of front) (place r.low) (place r.high) _ x (inl a) ∙ s.labels x lt
              ∙ shown_passed n p (place r.high + 1) (f x) x (omega arith) (omega arith)
          | inr a ↦ elim (cases_lt (place r.high) x) [
            | inl b ↦ over_out (network_of front) (place r.low) (place r.high) _ x (inr b) ∙ s.labels x lt
                ∙ shown_past n p (place r.high + 1) (f x) x (omega arith) (omega arith)
            | inr b ↦ over_in (network_of front) (place r.low) (place r.high) _ x a b ∙ numbered
                ∙ sym (ap (λ (v : ℕ). shown n (place r.high + 1) v x) (labelled x a b) ∙ shown_here n (place r.high + 1) x (omega arith))
          ]
        ]

    -- else it is declared
    pub stage_said : Stage size f ns name n (place r.high + 1) (front ++ said_of place name r ∷ [])
    stage_said = record { names = inr named; labels = showing }

    remains : (x : ℕ) × (x < size) × (f x ≡ 0) → Remains size (network_of front) (place r.low) (place r.high)
    remains e =
        let x = e.0 in
        let z = e.2 in (
          x,
          e.1,
          s.labels x e.1 ∙ ap (λ (v : ℕ). shown n p v x) z ∙ shown_elsewhere n p x,
          elim (cases_lt x (place r.low)) [
            | inl a ↦ inl a
            | inr a ↦ elim (cases_lt (place r.high) x) [ inl b ↦ inr b | inr b ↦ let l = labelled x a b in absurd (omega arith) ]
          ],
        )

    room : (before after : List (Run A ℕ)) → Joined place p 0 before → Painted place f before
        → Joined place size (place r.high + 1) after → Painted place f after
        → runs_needed eqb size (network_of (front ++ said_of place name r ∷ [])) ≤ length before + 1 + length after
    room before after j q k u =
        let mid = place r.high + 1 in
        let o = keeps.ordered in
        let len = length-append before (r ∷ []) in
        let like : (x y : ℕ) → x < size → y < size → f x ≡ f y → shown n mid (f x) x ≡ shown n mid (f x) y
        → network_of (front ++ said_of place name r ∷ []) x ≡ network_of (front ++ said_of place name r ∷ []) y
        = λ x y a b e m. showing x a ∙ m ∙ ap (λ (v : ℕ). shown n mid v y) e ∙ sym (showing y b) in
        let all = needed_both place f (network_of (front ++ said_of place name r ∷ [])) size mid (before ++ r ∷ []) after (omega arith)
        (joined_push place p 0 before r j begins (omega arith)) (painted_push place f before r q keeps) k u
        (λ x y a b e. like x y (omega arith) (omega arith) e (shown_before n mid (f x) x y a b))
        (λ x y a a' b b' e. like x y a' b' e (shown_after n mid (f x) x y a b)) in
        omega arith

    pub said_accepted : (rows : ℕ) (before after : List (Run A ℕ)) → Joined place p 0 before → Painted place f before
        → Joined place size (place r.high + 1) after → Painted place f after → length before + 1 + length after ≤ rows
        → well_formed name ≡ true → n ≤ 24 → (x : ℕ) × (x < size) × (f x ≡ 0) → Accepted size rows front (said_of place name r)
    said_accepted rows before after j q k u most formed few e =
        let num = numbered in
        let need = room before after j q k u in
        record {
          sane = record { formed = formed; ordered = keeps.ordered; few = omega arith };
          inside = inside;
          free = free;
          remains = remains e;
          room = omega arith;
        }
