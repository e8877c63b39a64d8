-- What follows from a list of runs being a line.
use Rattle.std.proofs.Common.{◌≡◌, ℕ, ◌+◌, ◌<◌, ◌≤◌, ◌⊎◌, List, [], ◌∷◌, sym, refl, ap, ◌∙◌, inl, inr, arith}
use Rattle.line.specs.declared.run.Run.{Run}
use Rattle.line.specs.Line.{Joined, Painted, BeginsApart, Differ, Line, Outline, outline}

pub order : (m n : ℕ) → (m < n) ⊎ ((m ≡ n) ⊎ (n < m))
order m n = grind arith

module _ {P L : Type 0} (place : P → ℕ) where
  -- what ends does not end before it begins
  pub joined_le : (size from : ℕ) (rows : List (Run P L)) → Joined place size from rows → from ≤ size
  joined_le size from [] j = omega arith
  joined_le size from (r ∷ rows) j = let k = joined_le size (place r.high + 1) rows j.2 in omega arith

  -- where two labellings agree, the runs of one are those of the other
  pub painted_like : (size from : ℕ) (f g : ℕ → L) (rows : List (Run P L)) → Joined place size from rows
      → ((x : ℕ) → from ≤ x → x < size → f x ≡ g x) → Painted place f rows → Painted place g rows
  painted_like size from f g [] j same p = tt
  painted_like size from f g (r ∷ rows) j same p =
      let k = joined_le size (place r.high + 1) rows j.2 in (
        record { ordered = p.0.ordered; labelled = λ x a b. sym (same x (omega arith) (omega arith)) ∙ p.0.labelled x a b },
        painted_like size (place r.high + 1) f g rows j.2 (λ x a b. same x (omega arith) b) p.1,
      )

  -- the run after r begins where r ends, so it has the label of that place
  apart_next : (size from : ℕ) (f : ℕ → L) (l : L) (rows : List (Run P L)) → Joined place size from rows → Painted place f rows
      → BeginsApart l rows → from < size → f from ≡ l → ⊥
  apart_next size from f l [] j p b lt e = omega arith
  apart_next size from f l (r ∷ rows) j p b lt e = b (sym e ∙ p.0.labelled from (omega arith) (omega arith))

  -- a run of a line does not end before another run from the same place on
  not_shorter : (size from : ℕ) (f : ℕ → L) (r s : Run P L) (rows others : List (Run P L))
      → Joined place size from (r ∷ rows) → Painted place f (r ∷ rows) → Differ (r ∷ rows)
      → Joined place size from (s ∷ others) → Painted place f (s ∷ others)
      → place r.high < place s.high → ⊥
  not_shorter size from f r s rows others j p d k q lt =
      let top = joined_le size (place s.high + 1) others k.2 in
      let e : f from ≡ r.label = p.0.labelled from (omega arith) (omega arith) in
      let e' : f from ≡ s.label = q.0.labelled from (omega arith) (omega arith) in
      apart_next size _ f r.label rows j.2 p.1 d.0 (omega arith)
      (q.0.labelled (place r.high + 1) (omega arith) (omega arith) ∙ sym e' ∙ e)

  same_outline : (size from : ℕ) (f : ℕ → L) (rows others : List (Run P L))
      → Joined place size from rows → Painted place f rows → Differ rows
      → Joined place size from others → Painted place f others → Differ others
      → outline place rows ≡ outline place others
  same_outline size from f [] [] j p d k q c = refl
  same_outline size from f [] (s ∷ others) j p d k q c = let t = joined_le size (place s.high + 1) others k.2 in absurd (omega arith)
  same_outline size from f (r ∷ rows) [] j p d k q c = let t = joined_le size (place r.high + 1) rows j.2 in absurd (omega arith)
  same_outline size from f (r ∷ rows) (s ∷ others) j p d k q c =
      let high : place r.high ≡ place s.high =
      elim (order (place r.high) (place s.high)) [
        | inl lt ↦ absurd (not_shorter size from f r s rows others j p d k q lt)
        | inr (inl e) ↦ e
        | inr (inr lt) ↦ absurd (not_shorter size from f s r others rows k q c j p lt)
      ] in
      let low : place r.low ≡ place s.low = omega arith in
      let label : r.label ≡ s.label = sym (p.0.labelled from (omega arith) (omega arith)) ∙ q.0.labelled from (omega arith) (omega arith) in
      let rest : Joined place size (place r.high + 1) others = rw high k.2 in
      let tail = same_outline size (place r.high + 1) f rows others j.2 p.1 d.1 rest q.1 c.1 in
      cc

  -- the line of a labelling is the only one
  pub line_unique : (size : ℕ) (f g : ℕ → L) (rows others : List (Run P L)) → Line place size f rows → Line place size g others
      → ((x : ℕ) → x < size → f x ≡ g x) → outline place rows ≡ outline place others
  line_unique size f g rows others a b same =
      same_outline size 0 g rows others a.joined (painted_like size 0 f g rows a.joined (λ x _ h. same x h) a.painted) a.differ b.joined b.painted b.differ

  agree : (size from from' : ℕ) (f g : ℕ → L) (rows others : List (Run P L)) → outline place rows ≡ outline place others
      → Joined place size from rows → Painted place f rows → Joined place size from' others → Painted place g others
      → (x : ℕ) → from ≤ x → x < size → f x ≡ g x
  agree size from from' f g [] others e j p k q x a b = absurd (omega arith)
  agree size from from' f g (r ∷ rows) [] e j p k q x a b = let z : ◌≡◌ {A = ℕ} 0 1 = cc in absurd (omega arith)
  agree size from from' f g (r ∷ rows) (s ∷ others) e j p k q x a b =
      let head : ◌≡◌ {A = Outline L} (place r.low, place r.high, r.label) (place s.low, place s.high, s.label) = cc in
      let low : place r.low ≡ place s.low = ap (λ (t : Outline L). t.0) head in
      let high : place r.high ≡ place s.high = ap (λ (t : Outline L). t.1) head in
      let label : r.label ≡ s.label = ap (λ (t : Outline L). t.2) head in
      let tail : outline place rows ≡ outline place others = cc in
      elim (order x (place r.high + 1)) [
        | inl lt ↦ p.0.labelled x (omega arith) (omega arith) ∙ label ∙ sym (q.0.labelled x (omega arith) (omega arith))
        | inr h ↦ let h' : place r.high + 1 ≤ x = grind arith in agree size (place r.high + 1) (place s.high + 1) f g rows others tail j.2 p.1 k.2 q.1 x h' b
      ]

  -- lines that look alike label alike
  pub line_tells : (size : ℕ) (f g : ℕ → L) (rows others : List (Run P L)) → Line place size f rows → Line place size g others
      → outline place rows ≡ outline place others → (x : ℕ) → x < size → f x ≡ g x
  line_tells size f g rows others a b e x h = agree size 0 0 f g rows others e a.joined a.painted b.joined b.painted x (omega arith) h
