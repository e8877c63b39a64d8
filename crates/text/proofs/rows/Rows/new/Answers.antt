-- Before the first row all rows are left.
use Rattle.std.proofs.Common.{refl}
use Rattle.text.specs.Cursors.{rows_left}
use Rattle.text.proofs.rows.Rows.new.Goals as goal

pub returns-clause-left : goal.returns-clause-left
unfolding rows_left
returns-clause-left c = rw (c.new.ensures.text, c.new.ensures.at) refl
