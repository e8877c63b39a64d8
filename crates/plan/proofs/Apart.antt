-- The names of declarations: each is new after those before it.
use Rattle.std.proofs.Common.{◌≡◌, ℕ, ◌+◌, ◌≤◌, Bool, true, false, cond, leb, ◌⊎◌, List, [], ◌∷◌, ◌++◌, length, sym, refl, subst, inl, inr, arith}
use Rattle.std.proofs.lemmas.List.{append-nil, append_assoc}
use Rattle.std.proofs.lemmas.Bool.{leb-true, leb-false}
use Rattle.names.specs.Names.{number_in, with_name}
use Rattle.plan.specs.Declarations.{Declaration, names_after, names_of}
use Rattle.names.proofs.Numbers.{number_most}

-- after ns each of `more` is new in its turn
abbrev pub Apart : List (List ℕ) → List (List ℕ) → Type 0
Apart ns [] = Unit {0}
Apart ns (m ∷ more) = (number_in ns m ≡ length ns + 1) × Apart (ns ++ m ∷ []) more

-- a name is there, or it comes at the end
pub with_cases : (ns : List (List ℕ)) (m : List ℕ)
    → ((number_in ns m ≤ length ns) × (with_name ns m ≡ ns)) ⊎ ((number_in ns m ≡ length ns + 1) × (with_name ns m ≡ ns ++ m ∷ []))
with_cases ns m = by (leb (number_in ns m) (length ns)) refl
  where
    by : (b : Bool) → leb (number_in ns m) (length ns) ≡ b
        → ((number_in ns m ≤ length ns) × (cond b ns (ns ++ m ∷ []) ≡ ns)) ⊎ ((number_in ns m ≡ length ns + 1) × (cond b ns (ns ++ m ∷ []) ≡ ns ++ m ∷ []))
    by true h = inl (leb-true _ _ h, refl)
    by false h = inr (omega (arith, leb-false _ _ h, number_most ns m), refl)

pub with_there : (ns : List (List ℕ)) (m : List ℕ) → number_in ns m ≤ length ns → with_name ns m ≡ ns
with_there ns m h = elim (with_cases ns m) [ inl c ↦ c.1 | inr c ↦ absurd (omega arith) ]

pub with_next : (ns : List (List ℕ)) (m : List ℕ) → number_in ns m ≡ length ns + 1 → with_name ns m ≡ ns ++ m ∷ []
with_next ns m h = elim (with_cases ns m) [ inl c ↦ absurd (omega arith) | inr c ↦ c.1 ]

apart_push : (ms ns : List (List ℕ)) (m : List ℕ) → Apart ms ns → number_in (ms ++ ns) m ≡ length (ms ++ ns) + 1 → Apart ms (ns ++ m ∷ [])
apart_push ms [] m a h = (subst (λ (zs : List (List ℕ)). number_in zs m ≡ length zs + 1) (append-nil ms) h, tt)
apart_push ms (n ∷ ns) m a h =
    (a.0, apart_push (ms ++ n ∷ []) ns m a.1 (subst (λ (zs : List (List ℕ)). number_in zs m ≡ length zs + 1) (sym (append_assoc ms (n ∷ []) ns)) h))

apart_with : (ns : List (List ℕ)) (m : List ℕ) → Apart [] ns → Apart [] (with_name ns m)
apart_with ns m a =
    elim (with_cases ns m) [
      | inl c ↦ subst (λ (zs : List (List ℕ)). Apart [] zs) (sym c.1) a
      | inr c ↦ subst (λ (zs : List (List ℕ)). Apart [] zs) (sym c.1) (apart_push [] ns m a c.0)
    ]

apart_after : (ns : List (List ℕ)) (ds : List Declaration) → Apart [] ns → Apart [] (names_after ns ds)
apart_after ns [] a = a
apart_after ns (d ∷ ds) a = apart_after (with_name ns d.name) ds (apart_with ns d.name a)

-- the names of declarations are all different
pub names_apart : (ds : List Declaration) → Apart [] (names_of ds)
names_apart ds = apart_after [] ds tt
