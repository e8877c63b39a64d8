-- Before the first field all fields are left.
use Rattle.std.proofs.Common.{arith}
use Rattle.text.specs.Cursors.{fields_left}
use Rattle.text.proofs.Walking.{some_field}
use Rattle.text.proofs.fields.Fields.new.Goals as goal

pub returns-clause-left : goal.returns-clause-left
unfolding fields_left
returns-clause-left c = rw (c.new.ensures.text, c.new.ensures.at) (some_field c.args.row.now 0 (omega arith))
