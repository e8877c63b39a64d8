-- What `side_before` and `side_after` give, case by case, and the line that they make.
use Rattle.std.proofs.Common.{◌≡◌, ℕ, ◌+◌, ◌-◌, ◌<◌, ◌≤◌, List, [], ◌∷◌, ◌++◌, length, get_or, take, drop, Some, None, sym, ap, ◌∙◌, subst, inl, inr, arith}
use Rattle.std.proofs.lemmas.List.{append-nil, get_or_default}
use Rattle.line.specs.declared.run.Run.{Run}
use Rattle.line.specs.Line.{Keeps, Line, over}
use Rattle.line.proofs.Lines.{order}
use Rattle.line.proofs.Rows.{row_keeps, row_next}
use Rattle.splice.specs.declared.change.Side.{Side}
use Rattle.splice.specs.Changes.{Part, Spot, Led, Follows, listed}
use Rattle.splice.proofs.Parts.{over_out, over_in, part_like, part_append, part_one, part_take, part_after}
use Rattle.splice.proofs.Turns.{turn_before, turn_after}

module _ {P L : Type 0} (place : P → ℕ) (size : ℕ) (f : ℕ → L) (rows : List (Run P L)) (at : ℕ) (r : Run P L) (is : get_or rows at r ≡ r) where
  -- the run at `at` as it was read
  module _ (low : ℕ) (high : ℕ) (l : L) (spot : Spot place size f rows at low high l) where
    whole : Part place f size 0 rows
    whole = record { joined = spot.line.joined; painted = spot.line.painted; differ = spot.line.differ }

    begins_by : place r.low ≤ low
    begins_by = let e = ap (λ (q : Run P L). place q.low) is in omega (arith, spot.from r)

    ends_by : high ≤ place r.high
    ends_by = let e = ap (λ (q : Run P L). place q.high) is in omega (arith, spot.to r)

    differs : r.label ≡ l → ⊥
    differs e = spot.other r (ap (λ (q : Run P L). q.label) is ∙ e)

    keeps : Keeps f r.label (place r.low) (place r.high)
    keeps = subst (λ (q : Run P L). Keeps f q.label (place q.low) (place q.high)) is (row_keeps place f rows at r spot.within spot.line.painted)

    front : Part place f (place r.low) 0 (take at rows)
    front = subst (λ (q : Run P L). Part place f (place q.low) 0 (take at rows)) is (part_take place f size 0 rows at r spot.within whole)

    rest_after : Part place f size (place r.high + 1) (drop (at + 1) rows)
    rest_after = subst (λ (q : Run P L). Part place f size (place q.high + 1) (drop (at + 1) rows)) is (part_after place f size 0 rows at r spot.within whole)

    turned : 0 < place r.low → (0 < at) × (place (get_or rows (at - 1) r).high + 1 ≡ place r.low) × (f (place r.low - 1) ≡ f (place r.low) → ⊥)
    turned =
        subst (λ (q : Run P L). 0 < place q.low → (0 < at) × (place (get_or rows (at - 1) r).high + 1 ≡ place q.low) × (f (place q.low - 1) ≡ f (place q.low) → ⊥))
        is (turn_before place size f rows spot.line at r spot.within)

    turns_after : place r.high + 1 < size → (at + 1 < length rows) × (f (place r.high) ≡ f (place r.high + 1) → ⊥)
    turns_after =
        subst (λ (q : Run P L). place q.high + 1 < size → (at + 1 < length rows) × (f (place q.high) ≡ f (place q.high + 1) → ⊥))
        is (turn_after place size f rows spot.line at r spot.within)

    below : (x : ℕ) → x < low → f x ≡ over f low high l x
    below x h = sym (over_out f low high l x (λ a b. omega arith))

    above : (x : ℕ) → high < x → f x ≡ over f low high l x
    above x h = sym (over_out f low high l x (λ a b. omega arith))

  module _ (low : P) (high : ℕ) (l : L) (spot : Spot place size f rows at (place low) high l) where
    pub led_rest : (e : P) → place r.low < place low → place e + 1 ≡ place low
        → Led place f rows (place low) high l (record { cut = at; rest = Some (record { low = r.low; high = e; label = r.label }); end = low })
    led_rest e lt next =
        let lo = place low in
        let g = over f lo high l in
        let le = ends_by lo high l spot in
        let ord = spot.ordered in
        let k = keeps lo high l spot in
        let rest : Run P L = record { low = r.low; high = e; label = r.label } in
        let one = part_one place g rest (record { ordered = omega arith; labelled = λ x a b. sym (below lo high l spot x (omega arith)) ∙ k.labelled x a (omega arith) }) in
        let last : f (lo - 1) ≡ r.label = k.labelled (lo - 1) (omega arith) (omega arith) in
        record {
          part = part_append place g 0 (place r.low) lo (take at rows) (rest ∷ [])
              (part_like place f g (place r.low) 0 (take at rows) (λ x a b. below lo high l spot x (omega arith)) (front lo high l spot))
              (subst (λ (n : ℕ). Part place g n (place r.low) (rest ∷ [])) next one)
              (λ a b same. (turned lo high l spot a).2 (below lo high l spot _ (omega arith) ∙ same ∙ sym (below lo high l spot _ b)));
          turns = λ a same. differs lo high l spot (sym last ∙ below lo high l spot _ (omega arith) ∙ same);
          keeps = λ x a b. absurd (omega arith);
          reaches = omega arith;
        }

    pub led_merge : (q : Run P L) → place low ≤ place r.low → 0 < at → get_or rows (at - 1) q ≡ q → q.label ≡ l
        → Led place f rows (place low) high l (record { cut = at - 1; rest = None; end = q.low })
    led_merge q le pos isq same =
        let lo = place low in
        let g = over f lo high l in
        let by = begins_by lo high l spot in
        let ord = spot.ordered in
        let in_rows = spot.within in
        let back : at - 1 + 1 ≡ at = omega arith in
        let next : place (get_or rows at q).low ≡ place (get_or rows (at - 1) q).high + 1 =
        subst (λ (n : ℕ). place (get_or rows n q).low ≡ place (get_or rows (at - 1) q).high + 1) back (row_next place size 0 rows (at - 1) q (omega arith) spot.line.joined) in
        let here : get_or rows at q ≡ r = get_or_default rows at q r spot.within ∙ is in
        let join : place r.low ≡ place q.high + 1 = sym (ap (λ (w : Run P L). place w.low) here) ∙ next ∙ ap (λ (w : Run P L). place w.high + 1) isq in
        let k : Keeps f q.label (place q.low) (place q.high) =
        subst (λ (w : Run P L). Keeps f w.label (place w.low) (place w.high)) isq (row_keeps place f rows (at - 1) q (omega arith) spot.line.painted) in
        let kle = k.ordered in
        let turn : 0 < place q.low → f (place q.low - 1) ≡ f (place q.low) → ⊥ =
        subst (λ (w : Run P L). 0 < place w.low → f (place w.low - 1) ≡ f (place w.low) → ⊥) isq
        (λ a. (turn_before place size f rows spot.line (at - 1) q (omega arith) a).2) in
        let part : Part place f (place q.low) 0 (take (at - 1) rows) =
        subst (λ (w : Run P L). Part place f (place w.low) 0 (take (at - 1) rows)) isq (part_take place f size 0 rows (at - 1) q (omega arith) (whole lo high l spot)) in
        record {
          part = rw append-nil (part_like place f g (place q.low) 0 (take (at - 1) rows) (λ x a b. below lo high l spot x (omega arith)) part);
          turns = λ a e. turn a (below lo high l spot _ (omega arith) ∙ e ∙ sym same ∙ sym (k.labelled (place q.low) (omega arith) kle));
          keeps = λ x a b. k.labelled x a (omega arith) ∙ same;
          reaches = omega arith;
        }

    pub led_plain : place low ≤ place r.low → (0 < at → (q : Run P L) → get_or rows (at - 1) q ≡ q → q.label ≡ l → ⊥)
        → Led place f rows (place low) high l (record { cut = at; rest = None; end = low })
    led_plain le apart =
        let lo = place low in
        let g = over f lo high l in
        let by = begins_by lo high l spot in
        let in_rows = spot.within in
        let same : place r.low ≡ lo = omega arith in
        record {
          part = rw append-nil (subst (λ (n : ℕ). Part place g n 0 (take at rows)) same
              (part_like place f g (place r.low) 0 (take at rows) (λ x a b. below lo high l spot x (omega arith)) (front lo high l spot)));
          turns = λ a e.
              let t = turned lo high l spot (omega arith) in
              let pos = t.0 in
              let q = get_or rows (at - 1) r in
              let isq : get_or rows (at - 1) q ≡ q = get_or_default rows (at - 1) q r (omega arith) in
              let k = row_keeps place f rows (at - 1) r (omega arith) spot.line.painted in
              let kle = k.ordered in
              let join = t.1 in
              apart pos q isq (sym (k.labelled (lo - 1) (omega arith) (omega arith)) ∙ below lo high l spot _ (omega arith) ∙ e);
          keeps = λ x a b. absurd (omega arith);
          reaches = omega arith;
        }

  module _ (low : ℕ) (high : P) (l : L) (spot : Spot place size f rows at low (place high) l) where
    pub follows_rest : (e : P) → place high < place r.high → place e ≡ place high + 1
        → Follows place size f rows low (place high) l (record { cut = at + 1; rest = Some (record { low = e; high = r.high; label = r.label }); end = high })
    follows_rest e lt next =
        let hi = place high in
        let g = over f low hi l in
        let le = begins_by low hi l spot in
        let ord = spot.ordered in
        let k = keeps low hi l spot in
        let rest : Run P L = record { low = e; high = r.high; label = r.label } in
        let one = part_one place g rest (record { ordered = omega arith; labelled = λ x a b. sym (above low hi l spot x (omega arith)) ∙ k.labelled x (omega arith) b }) in
        let last : f (hi + 1) ≡ r.label = k.labelled (hi + 1) (omega arith) (omega arith) in
        record {
          part = part_append place g (hi + 1) (place r.high + 1) size (rest ∷ []) (drop (at + 1) rows)
              (subst (λ (n : ℕ). Part place g (place r.high + 1) n (rest ∷ [])) next one)
              (part_like place f g size (place r.high + 1) (drop (at + 1) rows) (λ x a b. above low hi l spot x (omega arith)) (rest_after low hi l spot))
              (λ a b same.
              let back : place r.high + 1 - 1 ≡ place r.high = omega arith in
              (turns_after low hi l spot b).1 (above low hi l spot _ lt ∙ ap g (sym back) ∙ same ∙ sym (above low hi l spot _ (omega arith))));
          turns = λ a same. differs low hi l spot (sym last ∙ above low hi l spot _ (omega arith) ∙ same);
          keeps = λ x a b. absurd (omega arith);
          reaches = omega arith;
        }

    pub follows_merge : (q : Run P L) → place r.high ≤ place high → at + 1 < length rows → get_or rows (at + 1) q ≡ q → q.label ≡ l
        → Follows place size f rows low (place high) l (record { cut = at + 2; rest = None; end = q.high })
    follows_merge q le lt isq same =
        let hi = place high in
        let g = over f low hi l in
        let by = ends_by low hi l spot in
        let here : get_or rows at q ≡ r = get_or_default rows at q r spot.within ∙ is in
        let next = row_next place size 0 rows at q lt spot.line.joined in
        let join : place q.low ≡ place r.high + 1 = sym (ap (λ (w : Run P L). place w.low) isq) ∙ next ∙ ap (λ (w : Run P L). place w.high + 1) here in
        let k : Keeps f q.label (place q.low) (place q.high) =
        subst (λ (w : Run P L). Keeps f w.label (place w.low) (place w.high)) isq (row_keeps place f rows (at + 1) q lt spot.line.painted) in
        let kle = k.ordered in
        let turn : place q.high + 1 < size → f (place q.high) ≡ f (place q.high + 1) → ⊥ =
        subst (λ (w : Run P L). place w.high + 1 < size → f (place w.high) ≡ f (place w.high + 1) → ⊥) isq
        (λ a. (turn_after place size f rows spot.line (at + 1) q lt a).1) in
        let two : at + 1 + 1 ≡ at + 2 = omega arith in
        let part : Part place f size (place q.high + 1) (drop (at + 2) rows) =
        subst (λ (n : ℕ). Part place f size (place q.high + 1) (drop n rows)) two
        (subst (λ (w : Run P L). Part place f size (place w.high + 1) (drop (at + 1 + 1) rows)) isq (part_after place f size 0 rows (at + 1) q lt (whole low hi l spot))) in
        record {
          part = part_like place f g size (place q.high + 1) (drop (at + 2) rows) (λ x a b. above low hi l spot x (omega arith)) part;
          turns = λ a e. turn a (k.labelled (place q.high) kle (omega arith) ∙ same ∙ sym e ∙ sym (above low hi l spot _ (omega arith)));
          keeps = λ x a b. k.labelled x (omega arith) b ∙ same;
          reaches = omega arith;
        }

    pub follows_plain : place r.high ≤ place high → (at + 1 < length rows → (q : Run P L) → get_or rows (at + 1) q ≡ q → q.label ≡ l → ⊥)
        → Follows place size f rows low (place high) l (record { cut = at + 1; rest = None; end = high })
    follows_plain le apart =
        let hi = place high in
        let g = over f low hi l in
        let by = ends_by low hi l spot in
        let same : place r.high ≡ hi = omega arith in
        record {
          part = subst (λ (n : ℕ). Part place g size (n + 1) (drop (at + 1) rows)) same
              (part_like place f g size (place r.high + 1) (drop (at + 1) rows) (λ x a b. above low hi l spot x (omega arith)) (rest_after low hi l spot));
          turns = λ a e.
              let lt = (turns_after low hi l spot (omega arith)).0 in
              let q = get_or rows (at + 1) r in
              let isq : get_or rows (at + 1) q ≡ q = get_or_default rows (at + 1) q r lt in
              let k = row_keeps place f rows (at + 1) r lt spot.line.painted in
              let kle = k.ordered in
              let next = row_next place size 0 rows at r lt spot.line.joined in
              let high_is = ap (λ (w : Run P L). place w.high) is in
              apart lt q isq (sym (k.labelled (hi + 1) (omega arith) (omega arith)) ∙ above low hi l spot _ (omega arith) ∙ e);
          keeps = λ x a b. absurd (omega arith);
          reaches = omega arith;
        }

-- the two sides with the new run between them
module _ {P L : Type 0} (place : P → ℕ) (size : ℕ) (f : ℕ → L) (rows : List (Run P L)) (low high : ℕ) (l : L) where
  pub spliced : (s t : Side P L) → low ≤ high → place t.end < size → Led place f rows low high l s → Follows place size f rows low high l t
      → Line place size (over f low high l) (take s.cut rows ++ listed s.rest ++ (record { low = s.end; high = t.end; label = l } ∷ (listed t.rest ++ drop t.cut rows)))
  spliced s t le inside a b =
      let g = over f low high l in
      let new : Run P L = record { low = s.end; high = t.end; label = l } in
      let al = a.reaches in
      let bl = b.reaches in
      let labelled : (x : ℕ) → place s.end ≤ x → x ≤ place t.end → g x ≡ l =
      λ x u v. elim (order x low) [
        | inl h ↦ over_out f low high l x (λ p q. omega arith) ∙ a.keeps x u h
        | inr h ↦ elim (order high x) [
          | inl h' ↦ over_out f low high l x (λ p q. omega arith) ∙ b.keeps x h' v
          | inr h' ↦ over_in f low high l x (grind arith) (grind arith)
        ]
      ] in
      let one = part_one place g new (record { ordered = omega arith; labelled = labelled }) in
      let back : place t.end + 1 - 1 ≡ place t.end = omega arith in
      let right = part_append place g (place s.end) (place t.end + 1) size (new ∷ []) (listed t.rest ++ drop t.cut rows) one b.part
      (λ u v e. b.turns v (sym e ∙ ap g back ∙ labelled _ (omega arith) (omega arith))) in
      let all = part_append place g 0 (place s.end) size (take s.cut rows ++ listed s.rest) (new ∷ (listed t.rest ++ drop t.cut rows)) a.part right
      (λ u v e. a.turns u (e ∙ labelled _ (omega arith) (omega arith))) in
      record { joined = all.joined; painted = all.painted; differ = all.differ }
