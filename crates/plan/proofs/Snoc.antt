-- One declaration more.
use Rattle.std.proofs.Common.{◌≡◌, ℕ, ◌+◌, ◌≤◌, Bool, true, false, cond, ◌&&◌, leb, List, [], ◌∷◌, ◌++◌, length, sym, refl, ap, ◌∙◌, arith}
use Rattle.std.specs.Str.{bytes_eq}
use Rattle.std.specs.List.{AllByRecursion}
use Rattle.std.proofs.lemmas.List.{length-append}
use Rattle.std.proofs.lemmas.Slice.Eq.{bytes_eq-Decides}
use Rattle.std.proofs.lemmas.Bool.{and_parts, leb-true}
use Rattle.line.specs.Line.{over}
use Rattle.names.specs.Names.{number_in, with_name}
use Rattle.names.proofs.Numbers.{number_most}
use Rattle.plan.specs.Declarations.{Declaration, names_after, names_of, network_in, network_of}

pub number_positive : (ns : List (List ℕ)) (m : List ℕ) → 1 ≤ number_in ns m
number_positive [] m = omega arith
number_positive (n ∷ ns) m = by (bytes_eq n m)
  where
    by : (b : Bool) → 1 ≤ cond b 1 (number_in ns m + 1)
    by true = omega arith
    by false = omega arith

number_front : (ns ms : List (List ℕ)) (m : List ℕ) → number_in ns m ≤ length ns → number_in (ns ++ ms) m ≡ number_in ns m
number_front [] ms m h = absurd (omega arith)
number_front (n ∷ ns) ms m h = by (bytes_eq n m) h (number_front ns ms m)
  where
    by : (b : Bool) → cond b 1 (number_in ns m + 1) ≤ length (n ∷ ns) → (number_in ns m ≤ length ns → number_in (ns ++ ms) m ≡ number_in ns m) → cond b 1 (number_in (ns ++ ms) m + 1) ≡ cond b 1 (number_in ns m + 1)
    by true h ih = refl
    by false h ih = ap (λ (k : ℕ). k + 1) (ih (omega arith))

pub number_push : (ns : List (List ℕ)) (m : List ℕ) → number_in (ns ++ m ∷ []) m ≡ number_in ns m
number_push [] m = ap (λ (b : Bool). cond b 1 2) ((bytes_eq-Decides m m).1 refl)
number_push (n ∷ ns) m = ap (λ (k : ℕ). cond (bytes_eq n m) 1 (k + 1)) (number_push ns m)

-- a name that is there keeps its number, and the new one has the number that was foreseen
number_with : (ns : List (List ℕ)) (n m : List ℕ) → number_in ns m ≤ length ns → number_in (with_name ns n) m ≡ number_in ns m
number_with ns n m h = by (leb (number_in ns n) (length ns))
  where
    by : (b : Bool) → number_in (cond b ns (ns ++ n ∷ [])) m ≡ number_in ns m
    by true = refl
    by false = number_front ns (n ∷ []) m h

pub number_new : (ns : List (List ℕ)) (n : List ℕ) → number_in (with_name ns n) n ≡ number_in ns n
number_new ns n = by (leb (number_in ns n) (length ns))
  where
    by : (b : Bool) → number_in (cond b ns (ns ++ n ∷ [])) n ≡ number_in ns n
    by true = refl
    by false = number_push ns n

has_with : (ns : List (List ℕ)) (n m : List ℕ) → number_in ns m ≤ length ns → number_in (with_name ns n) m ≤ length (with_name ns n)
has_with ns n m h =
    let e = number_with ns n m h in
    let l = by (leb (number_in ns n) (length ns)) in
    omega arith
  where
    by : (b : Bool) → length ns ≤ length (cond b ns (ns ++ n ∷ []))
    by true = omega arith
    by false = omega (arith, length-append ns (n ∷ []))

has_new : (ns : List (List ℕ)) (n : List ℕ) → number_in (with_name ns n) n ≤ length (with_name ns n)
has_new ns n = let e = number_new ns n in by (leb (number_in ns n) (length ns)) refl e
  where
    by : (b : Bool) → leb (number_in ns n) (length ns) ≡ b → number_in (cond b ns (ns ++ n ∷ [])) n ≡ number_in ns n → number_in (cond b ns (ns ++ n ∷ [])) n ≤ length (cond b ns (ns ++ n ∷ []))
    by true h e = leb-true _ _ h
    by false h e = omega (arith, length-append ns (n ∷ []), number_most ns n)

has_after : (ns : List (List ℕ)) (ds : List Declaration) (m : List ℕ) → number_in ns m ≤ length ns → number_in (names_after ns ds) m ≤ length (names_after ns ds)
has_after ns [] m h = h
has_after ns (d ∷ ds) m h = has_after (with_name ns d.name) ds m (has_with ns d.name m h)

all_has : (ns : List (List ℕ)) (ds : List Declaration) → AllByRecursion (λ e. number_in (names_after ns ds) e.name ≤ length (names_after ns ds)) ds
all_has ns [] = tt
all_has ns (d ∷ ds) = (has_after (with_name ns d.name) ds d.name (has_new ns d.name), all_has (with_name ns d.name) ds)

names_push : (ns : List (List ℕ)) (ds : List Declaration) (d : Declaration) → names_after ns (ds ++ d ∷ []) ≡ with_name (names_after ns ds) d.name
names_push ns [] d = refl
names_push ns (e ∷ ds) d = names_push (with_name ns e.name) ds d

pub names_snoc : (ds : List Declaration) (d : Declaration) → names_of (ds ++ d ∷ []) ≡ with_name (names_of ds) d.name
names_snoc ds d = names_push [] ds d

step : (b c : Bool) (k k' num r s : ℕ) → k' ≡ k → 1 ≤ k → (c ≡ true → cond b k r ≡ 0) → ((c ≡ true → r ≡ 0) → s ≡ cond c num r) → cond b k' s ≡ cond c num (cond b k r)
step true true k k' num r s e pos h ih = let z = h refl in absurd (omega arith)
step true false k k' num r s e pos h ih = e
step false true k k' num r s e pos h ih = ih h
step false false k k' num r s e pos h ih = ih h

network_push : (ns ns' : List (List ℕ)) (es : List Declaration) (d : Declaration) (x : ℕ)
    → ((m : List ℕ) → number_in ns m ≤ length ns → number_in ns' m ≡ number_in ns m)
    → AllByRecursion (λ e. number_in ns e.name ≤ length ns) es
    → ((leb d.low x && leb x d.high) ≡ true → network_in ns es x ≡ 0)
    → network_in ns' (es ++ d ∷ []) x ≡ cond (leb d.low x && leb x d.high) (number_in ns' d.name) (network_in ns es x)
network_push ns ns' [] d x same all free = refl
network_push ns ns' (e ∷ es) d x same all free =
    step (leb e.low x && leb x e.high) (leb d.low x && leb x d.high) (number_in ns e.name) (number_in ns' e.name) (number_in ns' d.name)
    (network_in ns es x) (network_in ns' (es ++ d ∷ []) x) (same e.name all.0) (number_positive ns e.name) free
    (λ f. network_push ns ns' es d x same all.1 f)

-- a declaration lays its number over what was free
pub network_snoc : (ds : List Declaration) (d : Declaration) → ((x : ℕ) → d.low ≤ x → x ≤ d.high → network_of ds x ≡ 0)
    → (x : ℕ) → over (network_of ds) d.low d.high (number_in (names_of ds) d.name) x ≡ network_of (ds ++ d ∷ []) x
network_snoc ds d free x =
    let ns = names_of ds in
    let push = network_push ns (with_name ns d.name) ds d x (λ m h. number_with ns d.name m h) (all_has [] ds)
    (λ t. let p = and_parts _ _ t in free x (leb-true _ _ p.0) (leb-true _ _ p.1)) in
    ap (λ (k : ℕ). cond (leb d.low x && leb x d.high) k (network_in ns ds x)) (sym (number_new ns d.name))
    ∙ sym push ∙ ap (λ (zs : List (List ℕ)). network_in zs (ds ++ d ∷ []) x) (sym (names_snoc ds d))

pub same_labels : (ds : List Declaration) (d : Declaration) → ((x : ℕ) → d.low ≤ x → x ≤ d.high → network_of ds x ≡ 0)
    → ◌≡◌ {A = ℕ → ℕ} (over (network_of ds) d.low d.high (number_in (names_of ds) d.name)) (network_of (ds ++ d ∷ []))
same_labels ds d free = λ i x. network_snoc ds d free x i
