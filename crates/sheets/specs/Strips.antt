-- The strips of all pairs of networks in one table, and when they hold the sheets of the rules.
use Rattle.std.specs.Prelude.{◌≡◌, ℕ, zero, suc, ◌+◌, ◌*◌, ◌^◌, ◌≤◌, Bool, true, ◌&&◌, List, length, take, drop, None, Option, nat_le}
use Rattle.std.specs.Option.{option_eq}
use Rattle.std.proofs.Common.{lit<}
use Rattle.line.specs.declared.run.Run.{Run}
use Rattle.line.specs.Line.{Listed, runs_needed}
use Rattle.service.specs.declared.service.Service.{Service}
use Rattle.service.specs.Spans.{place_of}
use Rattle.rules.specs.declared.action.Action.{Action}
use Rattle.rules.specs.declared.rule.Rule.{Rule}
use Rattle.rules.specs.contracts.action.ActionPartialEq.TheImpl as action_eq
use Rattle.rules.specs.Decisions.{decision}

-- a row of a sheet: a run of services under one label, which is accept, deny or none
abbrev pub Row : Type 0
Row = Run Service (Option Action)

-- protocol 0 and port 0
abbrev pub first_service : Service
first_service = record { protocol = 0; port = 0; protocol_fits = lit< tt; port_fits = lit< tt }

-- the row that stands after a line
abbrev pub blank_row : Row
blank_row = record { low = first_service; high = first_service; label = None }

-- what `==` answers of two labels
abbrev pub same_label : Option Action → Option Action → Bool
same_label = option_eq action_eq.ghosts.eq

-- how many runs the line of a pair's decisions has
unfoldable pub pair_needs : List Rule → ℕ → ℕ → ℕ
pair_needs rules from to = runs_needed same_label (2 ^ 24) (decision rules from to)

-- the rows are the sheet of a pair: the line of its decisions, and then blank rows
unfoldable pub PairSheet : List Rule → ℕ → ℕ → List Row → Type 0
PairSheet rules from to rows = Listed place_of (2 ^ 24) blank_row (decision rules from to) (pair_needs rules from to) rows

-- so many pairs have the named networks and elsewhere
abbrev pub pairs_of : ℕ → ℕ
pairs_of networks = (networks + 1) * (networks + 1)

-- the pairs are ordered by from, then by to
abbrev pub pair_number : ℕ → ℕ → ℕ → ℕ
pair_number networks from to = from * (networks + 1) + to

-- the strip of the pair with this number
abbrev pub strip : {X : Type 0} → ℕ → ℕ → List X → List X
strip depth pair rows = take depth (drop (pair * depth) rows)

-- the test holds of every number below n
unfoldable pub all_below : (ℕ → Bool) → ℕ → Bool
all_below test zero = true
all_below test (suc n) = test n && all_below test n

-- the line of each pair of networks needs at most `depth` runs
unfoldable pub fits_all : List Rule → ℕ → ℕ → Bool
fits_all rules networks depth = all_below (λ from. all_below (λ to. nat_le (pair_needs rules from to) depth) (networks + 1)) (networks + 1)

-- the table holds the sheet of each pair in its strip, and nothing else
pub record Right (rules : List Rule) (networks depth : ℕ) (rows : List Row) : Type 0 where
  pub long : length rows ≡ pairs_of networks * depth
  pub drawn : (from to : ℕ) → from ≤ networks → to ≤ networks → PairSheet rules from to (strip depth (pair_number networks from to) rows)
