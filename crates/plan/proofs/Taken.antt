-- What accepted declarations say.
use Rattle.std.proofs.Common.{◌≡◌, ℕ, ◌<◌, ◌≤◌, true, ◌⊎◌, List, [], ◌∷◌, ◌++◌, length, sym, refl, ◌∙◌, subst, inl, inr, arith}
use Rattle.std.specs.List.{AllByRecursion}
use Rattle.std.proofs.lemmas.List.{append-nil, append_assoc, length-append}
use Rattle.std.proofs.ByRecursion.{All-push}
use Rattle.std.proofs.lemmas.Bool.{cases_lt}
use Rattle.std.proofs.lemmas.Bool.Decides.{nat_tests}
use Rattle.line.specs.Line.{over}
use Rattle.names.specs.Names.{number_in, with_name, well_formed}
use Rattle.plan.specs.Declarations.{Declaration, names_of, network_of}
use Rattle.plan.specs.Accepted.{Accepted, Accepts}
use Rattle.plan.proofs.Snoc.{names_snoc, same_labels}
use Rattle.plan.proofs.Apart.{with_cases}

pub over_out : (f : ℕ → ℕ) (low high l x : ℕ) → ((x < low) ⊎ (high < x)) → over f low high l x ≡ f x
over_out f low high l x out = grind (arith, nat_tests)

pub over_in : (f : ℕ → ℕ) (low high l x : ℕ) → low ≤ x → x ≤ high → over f low high l x ≡ l
over_in f low high l x a b = grind (arith, nat_tests)

-- the names are well formed and few, each of them has a place, and one place is elsewhere
pub record Taken (size : ℕ) (ns : List (List ℕ)) (f : ℕ → ℕ) : Type 0 where
  pub formed : AllByRecursion (λ (m : List ℕ). well_formed m ≡ true) ns
  pub few : length ns ≤ 24
  pub used : (n : ℕ) → 0 < n → n ≤ length ns → (x : ℕ) × (x < size) × (f x ≡ n)
  pub elsewhere : (x : ℕ) × (x < size) × (f x ≡ 0)
  pub bounded : (x : ℕ) → f x ≤ length ns

-- and so with one accepted declaration more
taken_over : (size : ℕ) (ns : List (List ℕ)) (f : ℕ → ℕ) (m : List ℕ) (low high : ℕ) → Taken size ns f
    → well_formed m ≡ true → low ≤ high → high < size → number_in ns m ≤ 24
    → ((x : ℕ) → low ≤ x → x ≤ high → f x ≡ 0) → ((x : ℕ) × (x < size) × (f x ≡ 0) × ((x < low) ⊎ (high < x)))
    → Taken size (with_name ns m) (over f low high (number_in ns m))
taken_over size ns f m low high t well ord top most free rem =
    elim (with_cases ns m) [
      | inl c ↦ subst (λ (zs : List (List ℕ)). Taken size zs g) (sym c.1) (record {
        formed = t.formed;
        few = t.few;
        used = old;
        elsewhere = none;
        bounded = bound (length ns) (omega arith) c.0;
      })
      | inr c ↦
          let len = length-append ns (m ∷ []) in
          subst (λ (zs : List (List ℕ)). Taken size zs g) (sym c.1) (record {
            formed = All-push (λ (k : List ℕ). well_formed k ≡ true) ns m t.formed well;
            few = omega arith;
            used = λ n pos le. elim (cases_lt (length ns) n) [
              | inl lt ↦ (low, omega arith, over_in f low high (number_in ns m) low (omega arith) ord ∙ omega arith)
              | inr ge ↦ old n pos ge
            ];
            elsewhere = none;
            bounded = bound (length (ns ++ m ∷ [])) (omega arith) (omega arith);
          })
    ]
  where
    g : ℕ → ℕ
    g = over f low high (number_in ns m)

    out : (x : ℕ) → (f x ≡ 0 → ⊥) → ((x < low) ⊎ (high < x))
    out x ne = elim (cases_lt x low) [ inl h ↦ inl h | inr h ↦ elim (cases_lt high x) [ inl k ↦ inr k | inr k ↦ absurd (ne (free x h k)) ] ]

    old : (n : ℕ) → 0 < n → n ≤ length ns → (x : ℕ) × (x < size) × (over f low high (number_in ns m) x ≡ n)
    old n pos le =
        let u = t.used n pos le in
        (u.0, u.1, over_out f low high (number_in ns m) u.0 (out u.0 (λ z. let e = u.2 in omega arith)) ∙ u.2)

    none : (x : ℕ) × (x < size) × (over f low high (number_in ns m) x ≡ 0)
    none = (rem.0, rem.1, over_out f low high (number_in ns m) rem.0 rem.3 ∙ rem.2)

    bound : (k : ℕ) → length ns ≤ k → number_in ns m ≤ k → (x : ℕ) → over f low high (number_in ns m) x ≤ k
    bound k a b x = let c = t.bounded x in grind arith

taken_snoc : (size rows : ℕ) (ds : List Declaration) (d : Declaration) → Taken size (names_of ds) (network_of ds) → Accepted size rows ds d
    → Taken size (names_of (ds ++ d ∷ [])) (network_of (ds ++ d ∷ []))
taken_snoc size rows ds d t a =
    subst (λ (f : ℕ → ℕ). Taken size (names_of (ds ++ d ∷ [])) f) (same_labels ds d a.free)
    (subst (λ (zs : List (List ℕ)). Taken size zs (over (network_of ds) d.low d.high (number_in (names_of ds) d.name))) (sym (names_snoc ds d))
    (taken_over size (names_of ds) (network_of ds) d.name d.low d.high t a.sane.formed a.sane.ordered a.inside a.sane.few a.free a.remains))

taken_more : (size rows : ℕ) (ds more : List Declaration) → Taken size (names_of ds) (network_of ds) → Accepts size rows ds more
    → Taken size (names_of (ds ++ more)) (network_of (ds ++ more))
taken_more size rows ds [] t a = subst (λ (es : List Declaration). Taken size (names_of es) (network_of es)) (sym (append-nil ds)) t
taken_more size rows ds (d ∷ more) t a =
    subst (λ (es : List Declaration). Taken size (names_of es) (network_of es)) (append_assoc ds (d ∷ []) more)
    (taken_more size rows (ds ++ d ∷ []) more (taken_snoc size rows ds d t a.0) a.1)

-- this holds after any accepted declarations
pub taken : (size rows : ℕ) (ds : List Declaration) → 0 < size → Accepts size rows [] ds → Taken size (names_of ds) (network_of ds)
taken size rows ds pos a = taken_more size rows [] ds first a
  where
    first : Taken size [] (network_of [])
    first = record { formed = tt; few = omega arith; used = λ n p le. absurd (omega arith); elsewhere = (0, pos, refl); bounded = λ x. omega arith }
