-- What a search in the runs of a line finds.
use Rattle.std.specs.Prelude.{◌≡◌, ℕ, ◌<◌, ◌≤◌, List, length, take}
use Rattle.std.specs.List.{HoldsAt}
use Rattle.line.specs.declared.run.Run.{Run}
use Rattle.line.specs.Line.{Joined, Line, Listed}

-- the run holds the place x
pub record Spans {P L : Type 0} (place : P → ℕ) (x : ℕ) (r : Run P L) : Type 0 where
  pub from : place r.low ≤ x
  pub to : x ≤ place r.high

-- i is the number of a run, and where the runs follow one another over all places it is the one that holds x
pub record Sought {P L : Type 0} (place : P → ℕ) (size : ℕ) (runs : List (Run P L)) (x i : ℕ) : Type 0 where
  pub within : i < length runs
  pub holds : Joined place size 0 runs → HoldsAt (Spans place x) runs i

-- there are runs, and where they are the line of a labelling, l is the label that it gives to x
pub record Labelled {P L : Type 0} (place : P → ℕ) (size : ℕ) (runs : List (Run P L)) (x : ℕ) (l : L) : Type 0 where
  pub some : 0 < length runs
  pub is : (f : ℕ → L) → Line place size f runs → l ≡ f x

-- `runs` are the line that the rows begin with, where the rows are the line of a labelling and then rows that end at the first place
abbrev pub LineOf : {P L : Type 0} → (P → ℕ) → ℕ → List (Run P L) → List (Run P L) → Type 0
LineOf {P} {L} place size rows runs =
    (blank : Run P L) (f : ℕ → L) (n : ℕ) → place blank.high ≡ 0 → Listed place size blank f n rows → runs ≡ take n rows
