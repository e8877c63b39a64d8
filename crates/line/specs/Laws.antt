-- What is true of every line. `alike` tells whether two labels are equal.
use Rattle.std.specs.Prelude.{◌≡◌, ℕ, ◌<◌, ◌≤◌, Bool, ◌↔◌, List, length}
use Rattle.line.specs.declared.run.Run.{Run}
use Rattle.line.specs.Line.{Joined, Painted, Line, outline, runs_needed}

-- two lines list the same runs exactly when their labellings agree at every place; so a labelling has one line
abbrev pub OneLine : {P L : Type 0} → (P → ℕ) → ℕ → (ℕ → L) → (ℕ → L) → List (Run P L) → List (Run P L) → Type 0
OneLine place size f g runs others =
    Line place size f runs → Line place size g others → (outline place runs ≡ outline place others) ↔ ((x : ℕ) → x < size → f x ≡ g x)

-- a line has as many runs as its labelling needs, and no runs that label alike are fewer
abbrev pub FewestRuns : {P L : Type 0} → (P → ℕ) → ℕ → (L → L → Bool) → (ℕ → L) → List (Run P L) → List (Run P L) → Type 0
FewestRuns place size alike f runs others =
    Line place size f runs → Joined place size 0 others → Painted place f others
    → (length runs ≡ runs_needed alike size f) × (length runs ≤ length others)
