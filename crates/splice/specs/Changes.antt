-- A line before and after a new run. `place` says where a point stands.
use Rattle.std.specs.Prelude.{◌≡◌, ℕ, ◌+◌, ◌-◌, ◌<◌, ◌≤◌, List, [], ◌∷◌, ◌++◌, length, take, drop, Some, None, Option, ◌≢◌, slice_index_or}
use Rattle.line.specs.declared.run.Run.{Run}
use Rattle.line.specs.Line.{Joined, Painted, Differ, Line, over}
use Rattle.splice.specs.declared.change.Side.{Side}
use Rattle.splice.specs.declared.change.Change.{Change}

-- the runs are those of the line of f from the place `from` to the one before `end`
pub record Part {P L : Type 0} (place : P → ℕ) (f : ℕ → L) (end from : ℕ) (rows : List (Run P L)) : Type 0 where
  pub joined : Joined place end from rows
  pub painted : Painted place f rows
  pub differ : Differ rows

-- one value or none, as a list
abbrev pub listed : {X : Type 0} → Option X → List X
listed None = []
listed (Some x) = x ∷ []

-- in the line of f, the run at `at` holds the places from low to high, and has another label than l
pub record Spot {P L : Type 0} (place : P → ℕ) (size : ℕ) (f : ℕ → L) (rows : List (Run P L)) (at low high : ℕ) (l : L) : Type 0 where
  pub line : Line place size f rows
  pub within : at < length rows
  pub ordered : low ≤ high
  pub from : (d : Run P L) → place (slice_index_or rows at d).low ≤ low
  pub to : (d : Run P L) → high ≤ place (slice_index_or rows at d).high
  pub other : (d : Run P L) → (slice_index_or rows at d).label ≢ l

-- how the line goes on before a new run, which begins at s.end: the rows before s.cut, and a rest
pub record Led {P L : Type 0} (place : P → ℕ) (f : ℕ → L) (rows : List (Run P L)) (low high : ℕ) (l : L) (s : Side P L) : Type 0 where
  pub part : Part place (over f low high l) (place s.end) 0 (take s.cut rows ++ listed s.rest)
  pub turns : 0 < place s.end → over f low high l (place s.end - 1) ≢ l
  pub keeps : (x : ℕ) → place s.end ≤ x → x < low → f x ≡ l
  pub reaches : place s.end ≤ low

-- how it goes on after a new run, which ends at s.end: a rest, and the rows from s.cut on
pub record Follows {P L : Type 0} (place : P → ℕ) (size : ℕ) (f : ℕ → L) (rows : List (Run P L)) (low high : ℕ) (l : L) (s : Side P L) : Type 0 where
  pub part : Part place (over f low high l) size (place s.end + 1) (listed s.rest ++ drop s.cut rows)
  pub turns : place s.end + 1 < size → over f low high l (place s.end + 1) ≢ l
  pub keeps : (x : ℕ) → high < x → x ≤ place s.end → f x ≡ l
  pub reaches : high ≤ place s.end

-- what a change brings in
abbrev pub news : {X : Type 0} → Change X → List X
news c = listed c.before ++ (c.middle ∷ listed c.after)

-- the list after a change
abbrev pub changed : {X : Type 0} → Change X → List X → List X
changed c rows = take c.from rows ++ (news c ++ drop c.to rows)

-- how many items the first `count` are after a change
abbrev pub count_after : {X : Type 0} → Change X → ℕ → ℕ
count_after c count = c.from + length (news c) + (count - c.to)

-- the change is one of the first `count` items
pub record Apt {X : Type 0} (count : ℕ) (c : Change X) : Type 0 where
  pub ordered : c.from < c.to
  pub within : c.to ≤ count
