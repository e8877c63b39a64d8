-- How many runs a line has: as many as its labelling needs, and no list of runs that labels alike has fewer.
use Rattle.std.proofs.Common.{◌≡◌, ℕ, zero, suc, ◌+◌, ◌-◌, ◌<◌, ◌≤◌, Bool, true, false, cond, List, [], ◌∷◌, length, Decides, sym, refl, ap, ◌∙◌, add-zero, add-one, arith}
use Rattle.line.specs.declared.run.Run.{Run}
use Rattle.line.specs.Line.{Keeps, Stretch, Joined, Painted, Differ, Line, changes, runs_needed}
use Rattle.line.proofs.Lines.{joined_le}

module _ {L : Type 0} (alike : L → L → Bool) (tells : (a b : L) → Decides (alike a b) (a ≡ b)) (f : ℕ → L) where
  pub changes_first : changes alike f (0 + 1) ≡ 0
  unfolding changes
  changes_first = refl

  -- up to the first place there is none
  pub changes_none : (at : ℕ) → at ≡ 0 → 0 ≡ changes alike f (at + 1)
  changes_none at e = sym (ap (λ (n : ℕ). changes alike f (n + 1)) e ∙ changes_first)

  changes_step : (n : ℕ) → changes alike f (n + 1 + 1) ≡ changes alike f (n + 1) + cond (alike (f n) (f (n + 1))) 0 1
  unfolding changes
  changes_step n = simp add-one

  pub changes_most : (n : ℕ) → changes alike f (n + 1 + 1) ≤ changes alike f (n + 1) + 1
  changes_most n = let s = changes_step n in grind arith

  pub changes_same : (n : ℕ) → f n ≡ f (n + 1) → changes alike f (n + 1 + 1) ≡ changes alike f (n + 1)
  changes_same n e = let s = changes_step n in let t = (tells (f n) (f (n + 1))).1 e in grind arith

  pub changes_other : (n : ℕ) → (f n ≡ f (n + 1) → ⊥) → changes alike f (n + 1 + 1) ≡ changes alike f (n + 1) + 1
  changes_other n ne =
      changes_step n ∙ other (alike (f n) (f (n + 1))) (tells (f n) (f (n + 1)))
    where
      other : (b : Bool) → Decides b (f n ≡ f (n + 1)) → changes alike f (n + 1) + cond b 0 1 ≡ changes alike f (n + 1) + 1
      other true d = absurd (ne (d.0 refl))
      other false d = refl

  kept : (l : L) (from k : ℕ) → ((x : ℕ) → from ≤ x → x ≤ from + k → f x ≡ l) → changes alike f (from + k + 1) ≡ changes alike f (from + 1)
  kept l from zero h = ap (changes alike f) (omega arith)
  kept l from (suc k) h =
      let more : from + suc k + 1 ≡ from + k + 1 + 1 = omega arith in
      let last : f (from + k) ≡ f (from + k + 1) = h (from + k) (omega arith) (omega arith) ∙ sym (h (from + k + 1) (omega arith) (omega arith)) in
      ap (changes alike f) more ∙ changes_same (from + k) last ∙ kept l from k (λ x a b. h x a (omega arith))

  -- no change within a run
  pub changes_kept : (l : L) (from to : ℕ) → Keeps f l from to → changes alike f (to + 1) ≡ changes alike f (from + 1)
  changes_kept l from to k =
      let le = k.ordered in
      let gap : from + (to - from) ≡ to = omega arith in
      ap (λ (n : ℕ). changes alike f (n + 1)) (sym gap) ∙ kept l from (to - from) (λ x a b. k.labelled x a (omega arith))

  changes_up : (n : ℕ) → changes alike f n ≤ changes alike f (n + 1)
  unfolding changes
  changes_up zero = omega arith
  changes_up (suc n) = let s = changes_step n in simp (add-one) (omega (arith, simp add-one at s))

  changes_far : (m k : ℕ) → changes alike f m ≤ changes alike f (m + k)
  changes_far m zero = omega (arith, ap (changes alike f) (add-zero m))
  changes_far m (suc k) =
      let more : m + suc k ≡ m + k + 1 = omega arith in
      omega (arith, ap (changes alike f) more, changes_up (m + k), changes_far m k)

  pub changes_below : (at n : ℕ) → at < n → changes alike f (at + 1) ≤ changes alike f n
  changes_below at n lt =
      let gap : at + 1 + (n - (at + 1)) ≡ n = omega arith in
      omega (arith, ap (changes alike f) gap, changes_far (at + 1) (n - (at + 1)))

  -- a stretch is one run: one change more where another follows it, and none after the last
  pub counted_more : (size : ℕ) (l : L) (from to after : ℕ) → Stretch size f l from to → after ≡ to + 1 → after < size
      → changes alike f (after + 1) ≡ changes alike f (from + 1) + 1
  counted_more size l from to after s e lt =
      let le = s.keeps.ordered in
      let last : f to ≡ l = s.keeps.labelled to (omega arith) (omega arith) in
      let other = changes_other to (λ h. s.ends (omega arith) (sym h ∙ last)) in
      ap (λ (n : ℕ). changes alike f (n + 1)) e ∙ other ∙ ap (λ (n : ℕ). n + 1) (changes_kept l from to s.keeps)

  pub counted_all : (size : ℕ) (l : L) (from to : ℕ) → Stretch size f l from to → to + 1 ≡ size → runs_needed alike size f ≡ changes alike f (from + 1) + 1
  counted_all size l from to s e = omega (arith, ap (changes alike f) e, changes_kept l from to s.keeps)

  module _ {P : Type 0} (place : P → ℕ) (size : ℕ) where
    at_least : (from : ℕ) (rows : List (Run P L)) → Joined place size from rows → Painted place f rows → from < size
        → changes alike f size + 1 ≤ changes alike f (from + 1) + length rows
    at_least from [] j p lt = absurd (omega arith)
    at_least from (r ∷ []) j p lt =
        let e = changes_kept r.label _ _ p.0 in
        let low = ap (λ (n : ℕ). changes alike f (n + 1)) j.0 in
        let end = ap (changes alike f) j.2 in
        omega arith
    at_least from (r ∷ q ∷ rows) j p lt =
        let e = changes_kept r.label _ _ p.0 in
        let low = ap (λ (n : ℕ). changes alike f (n + 1)) j.0 in
        let top = joined_le place size (place q.high + 1) rows j.2.2 in
        let ih = at_least (place r.high + 1) (q ∷ rows) j.2 p.1 (omega arith) in
        let one = changes_most (place r.high) in
        omega arith

    at_most : (from : ℕ) (rows : List (Run P L)) → Joined place size from rows → Painted place f rows → Differ rows → from < size
        → changes alike f (from + 1) + length rows ≤ changes alike f size + 1
    at_most from [] j p d lt = absurd (omega arith)
    at_most from (r ∷ []) j p d lt =
        let e = changes_kept r.label _ _ p.0 in
        let low = ap (λ (n : ℕ). changes alike f (n + 1)) j.0 in
        let end = ap (changes alike f) j.2 in
        omega arith
    at_most from (r ∷ q ∷ rows) j p d lt =
        let e = changes_kept r.label _ _ p.0 in
        let low = ap (λ (n : ℕ). changes alike f (n + 1)) j.0 in
        let top = joined_le place size (place q.high + 1) rows j.2.2 in
        let ih = at_most (place r.high + 1) (q ∷ rows) j.2 p.1 d.1 (omega arith) in
        let here = p.0.labelled (place r.high) (omega arith) (omega arith) in
        let next = p.1.0.labelled (place r.high + 1) (omega arith) (omega arith) in
        let one = changes_other (place r.high) (λ s. d.0 (sym here ∙ s ∙ next)) in
        omega arith

    -- runs that label like f are no fewer than f needs
    pub needed_least : (rows : List (Run P L)) → 0 < size → Joined place size 0 rows → Painted place f rows → runs_needed alike size f ≤ length rows
    needed_least rows pos j p = let z = changes_first in let k = at_least 0 rows j p pos in omega arith

    -- a line has as many runs as its labelling needs
    pub needed_line : (rows : List (Run P L)) → 0 < size → Line place size f rows → length rows ≡ runs_needed alike size f
    needed_line rows pos l =
        let z = changes_first in
        let k = at_least 0 rows l.joined l.painted pos in
        let m = at_most 0 rows l.joined l.painted l.differ pos in
        omega arith

    -- the line has the fewest
    pub line_fewest : (rows others : List (Run P L)) → 0 < size → Line place size f rows → Joined place size 0 others → Painted place f others
        → length rows ≤ length others
    line_fewest rows others pos l j p = let a = needed_line rows pos l in let b = needed_least others pos j p in omega arith
