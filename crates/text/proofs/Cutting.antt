-- Where a text is cut, and what its parts are then.
use Rattle.std.proofs.Common.{◌≡◌, ℕ, suc, ◌+◌, ◌-◌, ◌<◌, ◌≤◌, Bool, true, false, cond, eqb, ltb, List, [], ◌∷◌, ◌++◌, length, take, drop, sym, refl, ap, ◌∙◌, subst, add-one, arith, eq-eqb, ne_eqb}
use Rattle.std.proofs.lemmas.List.{take-append-drop, drop_more, take_rest, length-take-le, get_or-take}
use Rattle.std.proofs.ByRecursion.{All-from_get_or}
use Rattle.std.specs.List.{HoldsAt, AllWithin}
use Rattle.std.proofs.lemmas.Bool.Decides.{nat_tests}
use Rattle.text.specs.Parts.{Lacks, Cut, first_part, onto, parts}

-- a text has one first stop
pub same_cut : (stop : ℕ) (f x r y : List ℕ) → Lacks stop f → Lacks stop x → f ++ (stop ∷ r) ≡ x ++ (stop ∷ y) → (f ≡ x) × (r ≡ y)
same_cut stop [] [] r y lf lx e = (refl, cc)
same_cut stop [] (b ∷ x) r y lf lx e = absurd (lx.0 (cc))
same_cut stop (a ∷ f) [] r y lf lx e = absurd (lf.0 (cc))
same_cut stop (a ∷ f) (b ∷ x) r y lf lx e =
    let h : a ≡ b = cc in
    let t : f ++ (stop ∷ r) ≡ x ++ (stop ∷ y) = cc in
    let ih = same_cut stop f x r y lf.1 lx.1 t in
    let i = ih.0 in (cc, ih.1)

stops : (stop : ℕ) (x y : List ℕ) → Lacks stop (x ++ (stop ∷ y)) → ⊥
stops stop [] y l = l.0 refl
stops stop (b ∷ x) y l = stops stop x y l.1

-- a text without a stop is not cut
pub no_cut : (stop : ℕ) (text x y : List ℕ) → Lacks stop text → x ++ (stop ∷ y) ≡ text → ⊥
no_cut stop text x y l e = stops stop x y (subst (λ (t : List ℕ). Lacks stop t) (sym e) l)

-- the cut at the first place that holds the stop
pub cut_at : (stop i : ℕ) (text : List ℕ) → i < length text → HoldsAt (λ b. b ≡ stop) text i → AllWithin (λ b. b ≡ stop → ⊥) text 0 i → Cut stop text (take i text) (take (length text - (i + 1)) (drop (i + 1) text))
cut_at stop i text h e before = record {
  whole = sym (take-append-drop i text)
      ∙ ap (λ (q : List ℕ). take i text ++ q) (drop_more text i 0 h ∙ (ap (λ (b : ℕ). b ∷ drop (i + 1) text) (e 0) ∙ ap (λ (q : List ℕ). stop ∷ q) (sym (take_rest text (i + 1)))));
  first = All-from_get_or (λ (b : ℕ). b ≡ stop → ⊥) (take i text) 0 (λ k l. let n = length-take-le i text (omega arith) in let lt : k < i = omega arith in rw (get_or-take i text k 0 lt) (before k 0 (omega arith) (omega arith)));
}

-- the parts of a text that is cut
pub parts_cut : (stop : ℕ) (last : List (List ℕ)) (front rest : List ℕ) → Lacks stop front → parts stop last (front ++ (stop ∷ rest)) ≡ front ∷ parts stop last rest
parts_cut stop last [] rest l = ap (λ (b : Bool). cond b ([] ∷ parts stop last rest) (onto stop (parts stop last rest))) (eq-eqb stop stop refl)
parts_cut stop last (a ∷ front) rest l =
    let ih = parts_cut stop last front rest l.1 in
    ap (λ (b : Bool). cond b ([] ∷ parts stop last (front ++ (stop ∷ rest))) (onto a (parts stop last (front ++ (stop ∷ rest))))) (ne_eqb a stop l.0)
    ∙ ap (λ (q : List (List ℕ)). onto a q) ih

-- the one field of a text that has no stop
pub parts_one : (stop : ℕ) (text : List ℕ) → Lacks stop text → parts stop ([] ∷ []) text ≡ text ∷ []
parts_one stop [] l = refl
parts_one stop (a ∷ text) l =
    ap (λ (b : Bool). cond b ([] ∷ parts stop ([] ∷ []) text) (onto a (parts stop ([] ∷ []) text))) (ne_eqb a stop l.0)
    ∙ ap (λ (q : List (List ℕ)). onto a q) (parts_one stop text l.1)

-- the row that no byte ends
pub parts_last : (stop b : ℕ) (text : List ℕ) → Lacks stop (b ∷ text) → parts stop [] (b ∷ text) ≡ (b ∷ text) ∷ []
parts_last stop b [] l = ap (λ (t : Bool). cond t ([] ∷ []) (onto b [])) (ne_eqb b stop l.0)
parts_last stop b (a ∷ text) l =
    ap (λ (t : Bool). cond t ([] ∷ parts stop [] (a ∷ text)) (onto b (parts stop [] (a ∷ text)))) (ne_eqb b stop l.0)
    ∙ ap (λ (q : List (List ℕ)). onto b q) (parts_last stop a text l.1)

-- the first part of a text that is cut
pub first_cut : (stop : ℕ) (front rest : List ℕ) → Lacks stop front → first_part stop (front ++ (stop ∷ rest)) ≡ front
first_cut stop [] rest l = ap (λ (t : Bool). cond t [] (stop ∷ first_part stop rest)) (eq-eqb stop stop refl)
first_cut stop (a ∷ front) rest l =
    ap (λ (t : Bool). cond t [] (a ∷ first_part stop (front ++ (stop ∷ rest)))) (ne_eqb a stop l.0)
    ∙ ap (λ (q : List ℕ). a ∷ q) (first_cut stop front rest l.1)

-- the first part of a text that has no stop
pub first_whole : (stop : ℕ) (text : List ℕ) → Lacks stop text → first_part stop text ≡ text
first_whole stop [] l = refl
first_whole stop (a ∷ text) l =
    ap (λ (t : Bool). cond t [] (a ∷ first_part stop text)) (ne_eqb a stop l.0) ∙ ap (λ (q : List ℕ). a ∷ q) (first_whole stop text l.1)

past : (n b : ℕ) (text : List ℕ) → drop (n + 1) text ≡ drop (suc n + 1) (b ∷ text)
past n b text = ap (λ (k : ℕ). drop k text) (add-one n) ∙ sym (ap (λ (k : ℕ). drop k (b ∷ text)) (add-one (suc n)))

-- the first part stands at the front of its text
pub first_front : (stop : ℕ) (text : List ℕ) → first_part stop text ≡ take (length (first_part stop text)) text
first_front stop [] = refl
first_front stop (b ∷ text) = by (eqb b stop) (first_front stop text)
  where
    by : (t : Bool) → first_part stop text ≡ take (length (first_part stop text)) text
        → cond t [] (b ∷ first_part stop text) ≡ take (length (cond t [] (b ∷ first_part stop text))) (b ∷ text)
    by true ih = refl
    by false ih = ap (λ (q : List ℕ). b ∷ q) ih

-- the first part is no longer than its text
pub first_short : (stop : ℕ) (text : List ℕ) → length (first_part stop text) ≤ length text
first_short stop [] = omega arith
first_short stop (b ∷ text) = by (eqb b stop) (first_short stop text)
  where
    by : (t : Bool) → length (first_part stop text) ≤ length text → length (cond t [] (b ∷ first_part stop text)) ≤ length (b ∷ text)
    by true ih = omega arith
    by false ih = omega arith

-- the first row of a text, and the rows after it
pub first_row : (stop b : ℕ) (text : List ℕ) → parts stop [] (b ∷ text) ≡ first_part stop (b ∷ text) ∷ parts stop [] (drop (length (first_part stop (b ∷ text)) + 1) (b ∷ text))
first_row stop b [] = by (eqb b stop)
  where
    by : (t : Bool) → cond t ([] ∷ []) ((b ∷ []) ∷ []) ≡ cond t [] (b ∷ []) ∷ parts stop [] (drop (length (cond t [] (b ∷ [])) + 1) (b ∷ []))
    by true = refl
    by false = refl
first_row stop b (a ∷ text) = by (eqb b stop) (first_row stop a text)
  where
    by : (t : Bool) → parts stop [] (a ∷ text) ≡ first_part stop (a ∷ text) ∷ parts stop [] (drop (length (first_part stop (a ∷ text)) + 1) (a ∷ text))
        → cond t ([] ∷ parts stop [] (a ∷ text)) (onto b (parts stop [] (a ∷ text)))
        ≡ cond t [] (b ∷ first_part stop (a ∷ text)) ∷ parts stop [] (drop (length (cond t [] (b ∷ first_part stop (a ∷ text))) + 1) (b ∷ (a ∷ text)))
    by true ih = refl
    by false ih =
        ap (λ (q : List (List ℕ)). onto b q) ih
        ∙ ap (λ (q : List ℕ). (b ∷ first_part stop (a ∷ text)) ∷ parts stop [] q) (past (length (first_part stop (a ∷ text))) b (a ∷ text))

one_more : (m n : ℕ) → ltb m n ≡ ltb (suc m) (suc n)
one_more m n = grind (arith, nat_tests)

some : (n : ℕ) → true ≡ ltb 0 (suc n)
some n = grind (arith, nat_tests)

-- the fields after a first one of n bytes: none where that was all
abbrev pub later_fields : ℕ → ℕ → List ℕ → List (List ℕ)
later_fields stop n text = cond (ltb n (length text)) (parts stop ([] ∷ []) (drop (n + 1) text)) []

-- the first field of a text, and the fields after it
pub first_field : (stop : ℕ) (text : List ℕ) → parts stop ([] ∷ []) text ≡ first_part stop text ∷ later_fields stop (length (first_part stop text)) text
first_field stop [] = refl
first_field stop (b ∷ text) = by (eqb b stop) (first_field stop text)
  where
    by : (t : Bool) → parts stop ([] ∷ []) text ≡ first_part stop text ∷ later_fields stop (length (first_part stop text)) text
        → cond t ([] ∷ parts stop ([] ∷ []) text) (onto b (parts stop ([] ∷ []) text))
        ≡ cond t [] (b ∷ first_part stop text) ∷ later_fields stop (length (cond t [] (b ∷ first_part stop text))) (b ∷ text)
    by true ih = ap (λ (t : Bool). [] ∷ cond t (parts stop ([] ∷ []) text) []) (some (length text))
    by false ih =
        let front : List ℕ = first_part stop text in
        ap (λ (q : List (List ℕ)). onto b q) ih
        ∙ (ap (λ (q : List ℕ). (b ∷ front) ∷ cond (ltb (length front) (length text)) (parts stop ([] ∷ []) q) []) (past (length front) b text)
        ∙ ap (λ (t : Bool). (b ∷ front) ∷ cond t (parts stop ([] ∷ []) (drop (length (b ∷ front) + 1) (b ∷ text))) []) (one_more (length front) (length text)))
