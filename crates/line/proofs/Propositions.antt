-- That rows are a line and blank rows has one proof at most, so that it comes out of a truncation.
use Rattle.std.proofs.Common.{◌≡◌, ℕ, ◌+◌, ◌≤◌, List, [], ◌∷◌, refl}
use mathlib.Core.HLevel.{⊥_prop, →_prop, Π_prop}
use native.Mathlib.Bridge.{le_prop}
use native.Mathlib.Nat.{ℕ_set}
use Rattle.line.specs.declared.run.Run.{Run}
use Rattle.line.specs.Line.{Keeps, Joined, Painted, Differ, BeginsApart, Line, Listed}

module _ {P L : Type 0} (place : P → ℕ) where
  joined_prop : (size from : ℕ) (rows : List (Run P L)) → IsProp (Joined place size from rows)
  joined_prop size from [] x y = ℕ_set _ _ x y
  joined_prop size from (r ∷ rows) x y =
      λ i. (ℕ_set _ _ x.0 y.0 i, le_prop x.1 y.1 i, joined_prop size (place r.high + 1) rows x.2 y.2 i)

  apart_prop : (l : L) (rows : List (Run P L)) → IsProp (BeginsApart l rows)
  apart_prop l [] x y = refl
  apart_prop l (r ∷ rows) x y = →_prop ⊥_prop x y

  differ_prop : (rows : List (Run P L)) → IsProp (Differ rows)
  differ_prop [] x y = refl
  differ_prop (r ∷ rows) x y = λ i. (apart_prop r.label rows x.0 y.0 i, differ_prop rows x.1 y.1 i)

  module _ (set : IsSet L) where
    keeps_prop : (f : ℕ → L) (l : L) (from to : ℕ) → IsProp (Keeps f l from to)
    keeps_prop f l from to x y =
        let same : (k : ℕ) → IsProp (from ≤ k → k ≤ to → f k ≡ l) = λ k. →_prop (→_prop (set (f k) l)) in
        λ i. record { ordered = le_prop x.ordered y.ordered i; labelled = Π_prop same x.labelled y.labelled i }

    painted_prop : (f : ℕ → L) (rows : List (Run P L)) → IsProp (Painted place f rows)
    painted_prop f [] x y = refl
    painted_prop f (r ∷ rows) x y = λ i. (keeps_prop f _ _ _ x.0 y.0 i, painted_prop f rows x.1 y.1 i)

    line_prop : (size : ℕ) (f : ℕ → L) (rows : List (Run P L)) → IsProp (Line place size f rows)
    line_prop size f rows x y =
        λ i. record { joined = joined_prop size 0 rows x.joined y.joined i; painted = painted_prop f rows x.painted y.painted i; differ = differ_prop rows x.differ y.differ i }

    pub listed_prop : IsSet (List (Run P L)) → (size : ℕ) (blank : Run P L) (f : ℕ → L) (count : ℕ) (rows : List (Run P L)) → IsProp (Listed place size blank f count rows)
    listed_prop lists size blank f count rows x y =
        λ i. record { fits = le_prop x.fits y.fits i; line = line_prop size f _ x.line y.line i; blanks = lists _ _ x.blanks y.blanks i }
