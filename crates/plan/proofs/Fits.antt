-- Where a line is free.
use Rattle.std.proofs.Common.{◌≡◌, ℕ, zero, suc, ◌+◌, ◌<◌, ◌≤◌, List, [], ◌∷◌, ◌++◌, length, get_or, take, drop, sym, ap, ◌∙◌, subst, inl, inr, arith}
use Rattle.std.proofs.lemmas.List.{get_or_default, length-take-le, length-drop, length-append}
use Rattle.splice.specs.declared.change.Change.{Change}
use Rattle.line.specs.declared.run.Run.{Run}
use Rattle.line.specs.Line.{Keeps, Joined, Line}
use Rattle.line.proofs.Lines.{joined_le, order}
use Rattle.line.proofs.Rows.{row_keeps}
use Rattle.line.specs.Search.{Spans, Sought}
use Rattle.splice.specs.Changes.{Spot, changed, news, count_after, Apt}
use Rattle.plan.specs.Accepted.{Free, Meets, Fills, Remains}
use Rattle.splice.proofs.Turns.{turn_after}

module _ {P L : Type 0} (place : P → ℕ) where
  -- every place is held by a row
  pub held : (end from : ℕ) (rows : List (Run P L)) (x : ℕ) → Joined place end from rows → from ≤ x → x < end
      → (i : ℕ) × (i < length rows) × ((d : Run P L) → Spans place x (get_or rows i d))
  held end from [] x j a b = absurd (omega arith)
  held end from (r ∷ rows) x j a b =
      elim (order x (place r.high + 1)) [
        | inl h ↦ (0, omega arith, λ d. record { from = omega arith; to = omega arith })
        | inr h ↦
            let le : place r.high + 1 ≤ x = grind arith in
            let t = held end (place r.high + 1) rows x j.2 le b in
            (suc t.0, (let lt = t.1 in omega arith), t.2)
      ]

  bounded : (end from : ℕ) (rows : List (Run P L)) (k : ℕ) (d : Run P L) → Joined place end from rows → k < length rows
      → (from ≤ place (get_or rows k d).low) × (place (get_or rows k d).low ≤ place (get_or rows k d).high) × (place (get_or rows k d).high < end)
  bounded end from [] k d j lt = absurd (omega arith)
  bounded end from (r ∷ rows) zero d j lt = let m = joined_le place end _ rows j.2 in (omega arith, omega arith, omega arith)
  bounded end from (r ∷ rows) (suc k) d j lt = let t = bounded end (place r.high + 1) rows k d j.2 (omega arith) in (omega arith, t.1, t.2)

  -- of two rows the first ends before the second begins
  pub apart : (end from : ℕ) (rows : List (Run P L)) (i k : ℕ) (d : Run P L) → Joined place end from rows → i < k → k < length rows
      → place (get_or rows i d).high < place (get_or rows k d).low
  apart end from [] i k d j a b = absurd (omega arith)
  apart end from (r ∷ rows) i zero d j a b = absurd (omega arith)
  apart end from (r ∷ rows) zero (suc k) d j a b = let t = bounded end (place r.high + 1) rows k d j.2 (omega arith) in omega arith
  apart end from (r ∷ rows) (suc i) (suc k) d j a b = apart end (place r.high + 1) rows i k d j.2 (omega arith) (omega arith)

module _ {P : Type 0} (place : P → ℕ) (size : ℕ) (f : ℕ → ℕ) (rows : List (Run P ℕ)) (at low high : ℕ) (r : Run P ℕ) (is : get_or rows at r ≡ r)
    (line : Line place size f rows) (in_rows : at < length rows) where
  keeps : Keeps f r.label (place r.low) (place r.high)
  keeps = subst (λ (q : Run P ℕ). Keeps f q.label (place q.low) (place q.high)) is (row_keeps place f rows at r in_rows line.painted)

  ends : place r.high < size
  ends = subst (λ (q : Run P ℕ). place q.high < size) is (bounded place size 0 rows at r line.joined in_rows).2

  pub meets_low : place r.low ≤ low → low ≤ place r.high → low ≤ high → (r.label ≡ 0 → ⊥) → Meets f low high
  meets_low a b c ne = (low, omega arith, c, λ e. ne (sym (keeps.labelled low a b) ∙ e))

  pub meets_next : r.label ≡ 0 → low ≤ place r.high → place r.high < high → high < size → Meets f low high
  meets_next e a b c =
      let t : place r.high + 1 < size → (at + 1 < length rows) × (f (place r.high) ≡ f (place r.high + 1) → ⊥) =
      subst (λ (q : Run P ℕ). place q.high + 1 < size → (at + 1 < length rows) × (f (place q.high) ≡ f (place q.high + 1) → ⊥)) is (turn_after place size f rows line at r in_rows) in
      let k = keeps.ordered in
      (place r.high + 1, omega arith, omega arith, λ z. (t (omega arith)).1 (keeps.labelled (place r.high) k (omega arith) ∙ e ∙ sym z))

  pub all_free : r.label ≡ 0 → place r.low ≤ low → high ≤ place r.high → Free f low high
  all_free e a b = λ x u v. keeps.labelled x (omega arith) (omega arith) ∙ e

  pub remains_low : r.label ≡ 0 → place r.low < low → Remains size f low high
  remains_low e a = let k = keeps.ordered in let m = ends in (place r.low, omega arith, keeps.labelled (place r.low) (omega arith) k ∙ e, inl a)

  pub remains_high : r.label ≡ 0 → high < place r.high → Remains size f low high
  remains_high e a = let k = keeps.ordered in let m = ends in (place r.high, m, keeps.labelled (place r.high) k (omega arith) ∙ e, inr a)

  pub remains_other : place r.low ≤ low → high ≤ place r.high → (i : ℕ) → i < length rows → (i ≡ at → ⊥) → (get_or rows i r).label ≡ 0 → Remains size f low high
  remains_other a b i lt ne e =
      let q = get_or rows i r in
      let k = row_keeps place f rows i r lt line.painted in
      let ord = k.ordered in
      let m = (bounded place size 0 rows i r line.joined lt).2 in
      let lo : place (get_or rows at r).low ≡ place r.low = ap (λ (w : Run P ℕ). place w.low) is in
      let hi : place (get_or rows at r).high ≡ place r.high = ap (λ (w : Run P ℕ). place w.high) is in (
        place q.low,
        omega arith,
        k.labelled (place q.low) (omega arith) ord ∙ e,
        elim (order i at) [
          | inl h ↦ inl (omega (arith, apart place size 0 rows i at r line.joined h in_rows))
          | inr (inl h) ↦ absurd (ne h)
          | inr (inr h) ↦ inr (omega (arith, apart place size 0 rows at i r line.joined h lt))
        ],
      )

  pub fills_all : low ≤ place r.low → place r.high ≤ high → ((i : ℕ) → i < length rows → (i ≡ at → ⊥) → (get_or rows i r).label ≡ 0 → ⊥) → Fills size f low high
  fills_all a b none = λ x lt e.
      let t = held place size 0 rows x line.joined (omega arith) lt in
      let s = t.2 r in
      elim (order t.0 at) [
        | inl h ↦ absurd (no x e t.0 t.1 s (λ z. omega arith))
        | inr (inl h) ↦
            let here : get_or rows t.0 r ≡ r = ap (λ (n : ℕ). get_or rows n r) h ∙ is in
            let lo = ap (λ (w : Run P ℕ). place w.low) here in
            let hi = ap (λ (w : Run P ℕ). place w.high) here in
            let u = s.from in
            let v = s.to in
            (omega arith, omega arith)
        | inr (inr h) ↦ absurd (no x e t.0 t.1 s (λ z. omega arith))
      ]
    where
      no : (x : ℕ) → f x ≡ 0 → (i : ℕ) → i < length rows → Spans place x (get_or rows i r) → (i ≡ at → ⊥) → ⊥
      no x e i lt s ne = none i lt ne (sym ((row_keeps place f rows i r lt line.painted).labelled x s.from s.to) ∙ e)

module _ {P : Type 0} (place : P → ℕ) (size : ℕ) (f : ℕ → ℕ) (runs : List (Run P ℕ)) (at : ℕ) (r : Run P ℕ) (lt : at < length runs) (is : r ≡ get_or runs at r) where
  pub read : (d : Run P ℕ) → get_or runs at d ≡ r
  read d = get_or_default runs at d r lt ∙ sym is

  pub make_spot : (low high l : ℕ) → Line place size f runs → low ≤ high → place r.low ≤ low → high ≤ place r.high → r.label ≡ 0 → 0 < l
      → Spot place size f runs at low high l
  make_spot low high l line ord a b e pos = record {
    line = line;
    within = lt;
    ordered = ord;
    from = λ d. let z = ap (λ (w : Run P ℕ). place w.low) (read d) in omega arith;
    to = λ d. let z = ap (λ (w : Run P ℕ). place w.high) (read d) in omega arith;
    other = λ d s. let z = ap (λ (w : Run P ℕ). w.label) (read d) in omega arith;
  }

-- the run at `at`, read as r, holds the place low
module _ {P : Type 0} (place : P → ℕ) (size : ℕ) (f : ℕ → ℕ) (runs : List (Run P ℕ)) (at low high : ℕ) (sought : Sought place size runs low at)
    (r : Run P ℕ) (is : r ≡ get_or runs at r) (line : Line place size f runs) (ordered : low ≤ high) where
  here : get_or runs at r ≡ r
  here = sym is

  begins : place r.low ≤ low
  begins = let h = sought.holds line.joined r in let e = ap (λ (w : Run P ℕ). place w.low) here in let a = h.from in omega arith

  reaches : low ≤ place r.high
  reaches = let h = sought.holds line.joined r in let e = ap (λ (w : Run P ℕ). place w.high) here in let b = h.to in omega arith

  pub taken_here : (r.label ≡ 0 → ⊥) → Meets f low high
  taken_here ne = meets_low place size f runs at low high r here line sought.within begins reaches ordered ne

  pub taken_next : r.label ≡ 0 → place r.high < high → high < size → Meets f low high
  taken_next e a b = meets_next place size f runs at low high r here line sought.within e reaches a b

  pub free_here : r.label ≡ 0 → high ≤ place r.high → Free f low high
  free_here e ends = all_free place size f runs at low high r here line sought.within e begins ends

  pub spot_here : (l : ℕ) → r.label ≡ 0 → high ≤ place r.high → 0 < l → Spot place size f runs at low high l
  spot_here l e ends pos = make_spot place size f runs at r sought.within is low high l line ordered begins ends e pos

-- a change leaves as many rows as its line needs
pub length_changed : {X : Type 0} (c : Change X) (runs : List X) → Apt (length runs) c → length (changed c runs) ≡ count_after c (length runs)
length_changed c runs apt =
    let a = apt.ordered in
    let b = apt.within in
    let u = length-take-le c.from runs (omega arith) in
    let v = length-drop c.to runs in
    let w = length-append (take c.from runs) (news c ++ drop c.to runs) in
    let z = length-append (news c) (drop c.to runs) in
    omega arith
