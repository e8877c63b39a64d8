-- What the sheet of a pair tells.
use Rattle.std.proofs.Common.{◌≡◌, ℕ, ◌^◌, ◌<◌, ◌≤◌, List, length, take, refl, subst, lit<}
use Rattle.line.specs.Line.{Line, outline}
use Rattle.line.specs.Search.{LineOf}
use Rattle.line.proofs.Lines.{line_tells, line_unique}
use Rattle.line.proofs.Compared.{listed_some}
use Rattle.service.specs.Spans.{place_of}
use Rattle.rules.specs.declared.rule.Rule.{Rule}
use Rattle.rules.specs.Decisions.{decision}
use Rattle.sheets.specs.Strips.{Row, PairSheet, pair_needs, pair_number, strip, blank_row, Right}
use Rattle.sheets.specs.Listed.{runs_at}

module _ (rules : List Rule) (from to : ℕ) (rows : List Row) (sheet : PairSheet rules from to rows) where
  pub sheet_line : Line place_of (2 ^ 24) (decision rules from to) (take (pair_needs rules from to) rows)
  unfolding PairSheet
  sheet_line = sheet.line

  pub sheet_fits : pair_needs rules from to ≤ length rows
  unfolding PairSheet
  sheet_fits = sheet.fits

  -- a sheet has a run
  pub sheet_some : 0 < pair_needs rules from to
  unfolding PairSheet
  sheet_some = listed_some place_of (2 ^ 24) (lit< tt) blank_row refl (decision rules from to) (pair_needs rules from to) rows sheet

  -- the line that a sheet begins with is the pair's
  pub sheet_runs : (runs : List Row) → LineOf place_of (2 ^ 24) rows runs → runs ≡ take (pair_needs rules from to) rows
  unfolding PairSheet
  sheet_runs runs is = is blank_row (decision rules from to) (pair_needs rules from to) refl sheet

-- two sheets list the same runs exactly where the decisions agree
module _ (rules others : List Rule) (from to : ℕ) (rows lines : List Row) (sheet : PairSheet rules from to rows) (second : PairSheet others from to lines) where
  pub runs_agree : outline place_of (take (pair_needs rules from to) rows) ≡ outline place_of (take (pair_needs others from to) lines)
      → (x : ℕ) → x < 2 ^ 24 → decision rules from to x ≡ decision others from to x
  runs_agree = line_tells place_of (2 ^ 24) (decision rules from to) (decision others from to) _ _ (sheet_line rules from to rows sheet) (sheet_line others from to lines second)

  pub agree_runs : ((x : ℕ) → x < 2 ^ 24 → decision rules from to x ≡ decision others from to x)
      → outline place_of (take (pair_needs rules from to) rows) ≡ outline place_of (take (pair_needs others from to) lines)
  agree_runs = line_unique place_of (2 ^ 24) (decision rules from to) (decision others from to) _ _ (sheet_line rules from to rows sheet) (sheet_line others from to lines second)

-- the runs found at the beginning of a pair's strip are those listed for the pair
module _ (rules : List Rule) (networks depth : ℕ) (rows : List Row) (right : Right rules networks depth rows) (from to : ℕ) (f : from ≤ networks) (t : to ≤ networks) where
  pub runs_found : (s runs : List Row) → s ≡ strip depth (pair_number networks from to) rows → LineOf place_of (2 ^ 24) s runs → runs ≡ runs_at rules networks depth rows from to
  runs_found s runs e is = sheet_runs rules from to _ (right.drawn from to f t) runs (subst (λ (q : List Row). LineOf place_of (2 ^ 24) q runs) e is)
