-- Parts of a line, and a line put together of two.
use Rattle.std.proofs.Common.{◌≡◌, ℕ, zero, suc, ◌+◌, ◌-◌, ◌<◌, ◌≤◌, List, [], ◌∷◌, ◌++◌, length, get_or, take, drop, sym, refl, ap, ◌∙◌, subst, add-one, arith}
use Rattle.std.proofs.lemmas.Bool.Decides.{nat_tests}
use Rattle.line.specs.declared.run.Run.{Run}
use Rattle.line.specs.Line.{Keeps, BeginsApart, over}
use Rattle.line.proofs.Lines.{joined_le, painted_like}
use Rattle.splice.specs.Changes.{Part}

module _ {L : Type 0} (f : ℕ → L) (low high : ℕ) (l : L) where
  pub over_out : (x : ℕ) → (low ≤ x → x ≤ high → ⊥) → over f low high l x ≡ f x
  over_out x out = grind (arith, nat_tests)

  pub over_in : (x : ℕ) → low ≤ x → x ≤ high → over f low high l x ≡ l
  over_in x a b = grind (arith, nat_tests)

module _ {P L : Type 0} (place : P → ℕ) where
  -- where two labellings agree, a part of the one is a part of the other
  pub part_like : (f g : ℕ → L) (end from : ℕ) (rows : List (Run P L)) → ((x : ℕ) → from ≤ x → x < end → f x ≡ g x)
      → Part place f end from rows → Part place g end from rows
  part_like f g end from rows same p =
      record { joined = p.joined; painted = painted_like place end from f g rows p.joined same p.painted; differ = p.differ }

  pub part_le : (f : ℕ → L) (end from : ℕ) (rows : List (Run P L)) → Part place f end from rows → from ≤ end
  part_le f end from rows p = joined_le place end from rows p.joined

  part_tail : (f : ℕ → L) (end from : ℕ) (r : Run P L) (rows : List (Run P L)) → Part place f end from (r ∷ rows) → Part place f end (place r.high + 1) rows
  part_tail f end from r rows p = record { joined = p.joined.2; painted = p.painted.1; differ = p.differ.1 }

  -- the first run after r has another label, if the labelling turns there
  begins : (f : ℕ → L) (end from : ℕ) (l : L) (rows : List (Run P L)) → Part place f end from rows → (from < end → l ≡ f from → ⊥) → BeginsApart l rows
  begins f end from l [] p turns = tt
  begins f end from l (r ∷ rows) p turns =
      let le = joined_le place end _ rows p.joined.2 in
      λ e. turns (omega arith) (e ∙ sym (p.painted.0.labelled from (omega arith) (omega arith)))

  begins_front : (l : L) (xs ys : List (Run P L)) → BeginsApart l xs → (length xs ≡ 0 → BeginsApart l ys) → BeginsApart l (xs ++ ys)
  begins_front l [] ys b e = e refl
  begins_front l (x ∷ xs) ys b e = b

  pub part_append : (f : ℕ → L) (from mid end : ℕ) (xs ys : List (Run P L)) → Part place f mid from xs → Part place f end mid ys
      → (from < mid → mid < end → f (mid - 1) ≡ f mid → ⊥) → Part place f end from (xs ++ ys)
  part_append f from mid end [] ys p q turns = subst (λ (n : ℕ). Part place f end n ys) (sym p.joined) q
  part_append f from mid end (r ∷ xs) ys p q turns =
      let tail = part_tail f mid from r xs p in
      let le = part_le f mid _ xs tail in
      let more = part_append f (place r.high + 1) mid end xs ys tail q (λ a. turns (omega arith)) in
      let last = p.painted.0.labelled (place r.high) (omega arith) (omega arith) in
      record {
        joined = (p.joined.0, p.joined.1, more.joined);
        painted = (p.painted.0, more.painted);
        differ = (
          begins_front r.label xs ys p.differ.0
              (λ none. begins f end mid r.label ys q (λ lt e.
              let here : place r.high + 1 ≡ mid = ended xs none tail in
              let back : mid - 1 ≡ place r.high = omega arith in
              turns (omega arith) lt (ap f back ∙ last ∙ e))),
          more.differ,
        );
      }
    where
      ended : {n : ℕ} (zs : List (Run P L)) → length zs ≡ 0 → Part place f mid n zs → n ≡ mid
      ended [] none t = t.joined
      ended (z ∷ zs) none t = absurd (omega arith)

  pub part_one : (f : ℕ → L) (r : Run P L) → Keeps f r.label (place r.low) (place r.high) → Part place f (place r.high + 1) (place r.low) (r ∷ [])
  part_one f r k = record { joined = (refl, k.ordered, refl); painted = (k, tt); differ = (tt, tt) }

  -- the rows before the one at k, and from it on
  pub part_take : (f : ℕ → L) (end from : ℕ) (rows : List (Run P L)) (k : ℕ) (d : Run P L) → k < length rows → Part place f end from rows
      → Part place f (place (get_or rows k d).low) from (take k rows)
  part_take f end from [] k d lt p = absurd (omega arith)
  part_take f end from (r ∷ rows) zero d lt p = record { joined = sym p.joined.0; painted = tt; differ = tt }
  part_take f end from (r ∷ rows) (suc k) d lt p =
      let tail = part_take f end (place r.high + 1) rows k d (omega arith) (part_tail f end from r rows p) in
      record { joined = (p.joined.0, p.joined.1, tail.joined); painted = (p.painted.0, tail.painted); differ = (first rows k p.differ.0, tail.differ) }
    where
      first : (zs : List (Run P L)) (m : ℕ) → BeginsApart r.label zs → BeginsApart r.label (take m zs)
      first zs zero b = tt
      first [] (suc m) b = tt
      first (z ∷ zs) (suc m) b = b

  pub part_drop : (f : ℕ → L) (end from : ℕ) (rows : List (Run P L)) (k : ℕ) (d : Run P L) → k < length rows → Part place f end from rows
      → Part place f end (place (get_or rows k d).low) (drop k rows)
  part_drop f end from [] k d lt p = absurd (omega arith)
  part_drop f end from (r ∷ rows) zero d lt p = subst (λ (n : ℕ). Part place f end n (r ∷ rows)) (sym p.joined.0) p
  part_drop f end from (r ∷ rows) (suc k) d lt p = part_drop f end (place r.high + 1) rows k d (omega arith) (part_tail f end from r rows p)

  -- what is left after the row at k
  pub part_after : (f : ℕ → L) (end from : ℕ) (rows : List (Run P L)) (k : ℕ) (d : Run P L) → k < length rows → Part place f end from rows
      → Part place f end (place (get_or rows k d).high + 1) (drop (k + 1) rows)
  part_after f end from [] k d lt p = absurd (omega arith)
  part_after f end from (r ∷ rows) zero d lt p = part_tail f end from r rows p
  part_after f end from (r ∷ rows) (suc k) d lt p = simp add-one (simp add-one at (part_after f end (place r.high + 1) rows k d (omega arith) (part_tail f end from r rows p)))

  -- the labelling turns where a row begins
  pub part_turns : (f : ℕ → L) (end from : ℕ) (rows : List (Run P L)) (k : ℕ) (d : Run P L) → k + 1 < length rows → Part place f end from rows
      → (get_or rows k d).label ≡ (get_or rows (k + 1) d).label → ⊥
  part_turns f end from [] k d lt p = absurd (omega arith)
  part_turns f end from (r ∷ []) k d lt p = absurd (omega arith)
  part_turns f end from (r ∷ q ∷ rows) zero d lt p = p.differ.0
  part_turns f end from (r ∷ q ∷ rows) (suc k) d lt p = simp add-one (simp add-one at (part_turns f end (place r.high + 1) (q ∷ rows) k d (omega arith) (part_tail f end from r (q ∷ rows) p)))
