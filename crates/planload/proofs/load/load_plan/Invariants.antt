use Rattle.std.proofs.Common.{◌≡◌, ◌+◌, List, length}
use Rattle.text.specs.Parts.{rows}
use Rattle.text.specs.Cursors.{rows_left}
use Rattle.plan.specs.Declarations.{Declaration}
use Rattle.plan.specs.Made.{Made}
use Rattle.planload.proofs.Loading.{Goes}
use Rattle.planload.proofs.load.load_plan.Given as goal

abbrev pub invariant-loop-row : goal.invariant-loop-row
invariant-loop-row g l =
    (length l.plan.rows.now ≡ length l.initial.plan.rows.now) × (l.plan.rows.ghost_name ≡ l.initial.plan.rows.ghost_name)
    × ((ds : List Declaration) → Made g.A.Point.place g.A.Point.size ds l.initial.plan
    → Goes g.A.Address.text g.A.Point.place g.A.Point.size (length l.initial.plan.rows.now) ds (rows l.text) l.plan (l.row-iterator.parts.count + 1) (rows_left l.row-iterator))
