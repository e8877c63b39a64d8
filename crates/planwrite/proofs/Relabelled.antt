-- Runs under other labels.
use Rattle.std.proofs.Common.{◌≡◌, ℕ, ◌+◌, ◌<◌, ◌≤◌, eqb, List, [], ◌∷◌, ◌++◌, map, length, sym, ◌∙◌, subst, arith}
use Rattle.std.proofs.lemmas.List.{length-append, length-map}
use Rattle.std.proofs.lemmas.Bool.Decides.{Decides-eqb}
use Rattle.line.specs.declared.run.Run.{Run}
use Rattle.line.specs.Line.{Joined, Painted, runs_needed}
use Rattle.line.proofs.Lines.{joined_le}
use Rattle.line.proofs.Counts.{needed_least}

module _ {A : Type 0} (place : A → ℕ) (g : ℕ → ℕ) where
  -- the run with the label that g gives to its first place
  abbrev relabelled : Run A ℕ → Run A ℕ
  relabelled r = record { low = r.low; high = r.high; label = g (place r.low) }

  joined_relabelled : (end from : ℕ) (runs : List (Run A ℕ)) → Joined place end from runs → Joined place end from (map relabelled runs)
  joined_relabelled end from [] j = j
  joined_relabelled end from (r ∷ runs) j = (j.0, j.1, joined_relabelled end (place r.high + 1) runs j.2)

  -- where g is the same at places that f labels alike, it labels the runs of f
  painted_relabelled : (f : ℕ → ℕ) (end from : ℕ) (runs : List (Run A ℕ)) → Joined place end from runs → Painted place f runs
      → ((x y : ℕ) → from ≤ x → x < end → from ≤ y → y < end → f x ≡ f y → g x ≡ g y) → Painted place g (map relabelled runs)
  painted_relabelled f end from [] j p same = tt
  painted_relabelled f end from (r ∷ runs) j p same =
      let le = joined_le place end (place r.high + 1) runs j.2 in
      let ord = p.0.ordered in (
        record {
          ordered = ord;
          labelled = λ x a b. same x (place r.low) (omega arith) (omega arith) (omega arith) (omega arith)
              (p.0.labelled x a b ∙ sym (p.0.labelled (place r.low) (omega arith) ord));
        },
        painted_relabelled f end (place r.high + 1) runs j.2 p.1 (λ x y a b c d. same x y (omega arith) b (omega arith) d),
      )

module _ {A : Type 0} (place : A → ℕ) where
  joined_append : (end mid from : ℕ) (xs ys : List (Run A ℕ)) → Joined place mid from xs → Joined place end mid ys → Joined place end from (xs ++ ys)
  joined_append end mid from [] ys j k = subst (λ (n : ℕ). Joined place end n ys) (sym j) k
  joined_append end mid from (x ∷ xs) ys j k = (j.0, j.1, joined_append end mid (place x.high + 1) xs ys j.2 k)

  painted_append : (g : ℕ → ℕ) (xs ys : List (Run A ℕ)) → Painted place g xs → Painted place g ys → Painted place g (xs ++ ys)
  painted_append g [] ys p q = q
  painted_append g (x ∷ xs) ys p q = (p.0, painted_append g xs ys p.1 q)

  -- where g is the same at places that f labels alike, before the place mid and from it on, it needs no more runs than f has
  pub needed_both : (f g : ℕ → ℕ) (size mid : ℕ) (xs ys : List (Run A ℕ)) → 0 < size
      → Joined place mid 0 xs → Painted place f xs → Joined place size mid ys → Painted place f ys
      → ((x y : ℕ) → x < mid → y < mid → f x ≡ f y → g x ≡ g y)
      → ((x y : ℕ) → mid ≤ x → x < size → mid ≤ y → y < size → f x ≡ f y → g x ≡ g y)
      → runs_needed eqb size g ≤ length xs + length ys
  needed_both f g size mid xs ys pos j p k q before after =
      let to = relabelled place g in
      let n = needed_least eqb Decides-eqb g place size (map to xs ++ map to ys) pos
      (joined_append size mid 0 (map to xs) (map to ys) (joined_relabelled place g mid 0 xs j) (joined_relabelled place g size mid ys k))
      (painted_append g (map to xs) (map to ys)
      (painted_relabelled place g f mid 0 xs j p (λ x y a b c d. before x y b d))
      (painted_relabelled place g f size mid ys k q after)) in
      let a = length-append (map to xs) (map to ys) in
      let b = length-map xs to in
      let c = length-map ys to in
      omega arith
