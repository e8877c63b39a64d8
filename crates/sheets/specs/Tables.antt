-- A table with room for its strips, its pairs, and one of them drawn.
use Rattle.std.specs.Prelude.{◌≡◌, ℕ, ◌*◌, ◌≤◌, List, length}
use Rattle.rules.specs.declared.rule.Rule.{Rule}
use Rattle.rules.specs.declared.pair.Pair.{Pair}
use Rattle.sheets.specs.declared.sheets.Sheets.{Sheets}
use Rattle.sheets.specs.Strips.{Row, PairSheet, pairs_of, pair_number, strip}

-- there is a strip for each pair
abbrev pub HasStrips : ℕ → ℕ → List Row → Type 0
HasStrips networks depth rows = pairs_of networks * depth ≤ length rows

-- the pair is one of so many named networks and elsewhere
abbrev pub HasPair : ℕ → Pair → Type 0
HasPair networks pair = (pair.from ≤ networks) × (pair.to ≤ networks)

-- of the strips in `before` that of the pair alone is drawn, and it holds the pair's sheet
pub record DrawsPair (rules : List Rule) (pair : Pair) (before after : Sheets) : Type 0 where
  pub networks : after.networks ≡ before.networks
  pub depth : after.depth ≡ before.depth
  pub long : length after.rows.now ≡ length before.rows.now
  pub sheet : PairSheet rules pair.from pair.to (strip before.depth (pair_number before.networks pair.from pair.to) after.rows.now)
  pub others : (p : ℕ) → (p ≡ pair_number before.networks pair.from pair.to → ⊥) → strip before.depth p after.rows.now ≡ strip before.depth p before.rows.now
