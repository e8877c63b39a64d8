-- The runs that a table lists for a pair.
use Rattle.std.specs.Prelude.{◌≡◌, ℕ, ◌≤◌, List, take}
use Rattle.line.specs.Line.{outline}
use Rattle.service.specs.Spans.{place_of}
use Rattle.rules.specs.declared.rule.Rule.{Rule}
use Rattle.sheets.specs.Strips.{Row, pair_needs, pair_number, strip}

-- the runs of a pair are those of its line, with which its strip begins
abbrev pub runs_at : List Rule → ℕ → ℕ → List Row → ℕ → ℕ → List Row
runs_at rules networks depth rows from to = take (pair_needs rules from to) (strip depth (pair_number networks from to) rows)

-- two tables, with the sheets of the rules a and b, list the same runs for each pair
abbrev pub ListsAlike : List Rule → List Rule → ℕ → ℕ → List Row → ℕ → List Row → Type 0
ListsAlike a b networks depth rows other-depth others =
    (from to : ℕ) → from ≤ networks → to ≤ networks
    → outline place_of (runs_at a networks depth rows from to) ≡ outline place_of (runs_at b networks other-depth others from to)
