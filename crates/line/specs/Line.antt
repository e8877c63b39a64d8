-- A line: runs that follow one another over all places, neighbours with different labels. `place` says where a point stands.
use Rattle.std.specs.Prelude.{◌≡◌, ℕ, zero, suc, ◌+◌, ◌-◌, ◌<◌, ◌≤◌, Bool, cond, ◌&&◌, List, [], ◌∷◌, map, length, take, drop, replicate, Option, MatchOption, ◌≢◌, nat_le}
use Rattle.line.specs.declared.run.Run.{Run}

-- f gives the label l to every place from `from` to `to`, and `to` is not before `from`
pub record Keeps {L : Type 0} (f : ℕ → L) (l : L) (from to : ℕ) : Type 0 where
  pub ordered : from ≤ to
  pub labelled : (x : ℕ) → from ≤ x → x ≤ to → f x ≡ l

-- as far as can be: past `to` f gives another label, or no place is left below `size`
pub record Stretch {L : Type 0} (size : ℕ) (f : ℕ → L) (l : L) (from to : ℕ) : Type 0 where
  pub keeps : Keeps f l from to
  pub ends : to + 1 < size → f (to + 1) ≢ l

-- the runs follow one another: the first begins at the place `from`, each later one next after the one before, and the last ends next before the place `end`
abbrev pub Joined : {P L : Type 0} → (P → ℕ) → ℕ → ℕ → List (Run P L) → Type 0
Joined place end from [] = from ≡ end
Joined place end from (r ∷ runs) = (place r.low ≡ from) × (from ≤ place r.high) × Joined place end (place r.high + 1) runs

-- each run has the label that f gives to its places
abbrev pub Painted : {P L : Type 0} → (P → ℕ) → (ℕ → L) → List (Run P L) → Type 0
Painted place f [] = Unit {0}
Painted place f (r ∷ runs) = Keeps f r.label (place r.low) (place r.high) × Painted place f runs

-- the first of the runs has another label than l
abbrev pub BeginsApart : {P L : Type 0} → L → List (Run P L) → Type 0
BeginsApart l [] = Unit {0}
BeginsApart l (r ∷ runs) = l ≡ r.label → ⊥

-- neighbours have different labels
abbrev pub Differ : {P L : Type 0} → List (Run P L) → Type 0
Differ [] = Unit {0}
Differ (r ∷ runs) = BeginsApart r.label runs × Differ runs

-- the runs are the line of the labelling f over the places below `size`
pub record Line {P L : Type 0} (place : P → ℕ) (size : ℕ) (f : ℕ → L) (runs : List (Run P L)) : Type 0 where
  pub joined : Joined place size 0 runs
  pub painted : Painted place f runs
  pub differ : Differ runs

-- a run as it is compared: its points by place, and its label
abbrev pub Outline : Type 0 → Type 0
Outline L = ℕ × ℕ × L

-- the runs as they are compared
abbrev pub outline : {P L : Type 0} → (P → ℕ) → List (Run P L) → List (Outline L)
outline place runs = map (λ r. (place r.low, place r.high, r.label)) runs

-- f with the label l from the place `low` to the place `high`
abbrev pub over : {L : Type 0} → (ℕ → L) → ℕ → ℕ → L → ℕ → L
over f low high l x = cond (nat_le low x && nat_le x high) l (f x)

-- how many places x with 0 < x < n have another label than the place before
unfoldable pub changes : {L : Type 0} → (L → L → Bool) → (ℕ → L) → ℕ → ℕ
changes alike f zero = 0
changes alike f (suc zero) = 0
changes alike f (suc (suc n)) = changes alike f (suc n) + cond (alike (f n) (f (suc n))) 0 1

-- how many runs the line of f has: one, and one more for each place with another label than the place before
abbrev pub runs_needed : {L : Type 0} → (L → L → Bool) → ℕ → (ℕ → L) → ℕ
runs_needed alike size f = changes alike f size + 1

-- the first `count` rows are the line of f, and the others are as they were in `before`
pub record Drawn {P L : Type 0} (place : P → ℕ) (size : ℕ) (f : ℕ → L) (count : ℕ) (before rows : List (Run P L)) : Type 0 where
  pub fits : count ≤ length rows
  pub line : Line place size f (take count rows)
  pub rest : drop count rows ≡ drop count before

-- the first `count` rows are the line of f, and the others are blank
pub record Listed {P L : Type 0} (place : P → ℕ) (size : ℕ) (blank : Run P L) (f : ℕ → L) (count : ℕ) (rows : List (Run P L)) : Type 0 where
  pub fits : count ≤ length rows
  pub line : Line place size f (take count rows)
  pub blanks : drop count rows ≡ replicate (length rows - count) blank

-- what counting the runs of f answers: their number, or none where they are more than `most`
abbrev pub Counted : {L : Type 0} → (L → L → Bool) → ℕ → (ℕ → L) → ℕ → Option ℕ → Type 0
Counted alike size f most r = MatchOption r (most < runs_needed alike size f) (λ n. (n ≡ runs_needed alike size f) × (n ≤ most))

-- what drawing f into rows answers: the number of its runs, the rows then being its line and blank rows; or none where the rows are too few, which then are as they were
abbrev pub Redrawn : {P L : Type 0} → (P → ℕ) → ℕ → (L → L → Bool) → Run P L → (ℕ → L) → List (Run P L) → List (Run P L) → Option ℕ → Type 0
Redrawn place size alike blank f before rows r =
    MatchOption r ((length before < runs_needed alike size f) × (rows ≡ before)) (λ n. (n ≡ runs_needed alike size f) × Listed place size blank f n rows)
