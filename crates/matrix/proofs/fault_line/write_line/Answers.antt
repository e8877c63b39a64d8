-- The buffer is long enough for the line.
use Rattle.std.proofs.Common.{ap, length, arith}
use Rattle.matrix.proofs.Short.{line_short}
use Rattle.matrix.proofs.fault_line.write_line.Goals as goal

pub put_line-requires : goal.put_line-requires
put_line-requires c =
    let short = line_short c.args.kind c.args.fault.now (omega (arith, c.line.type_inv, c.line.ensures)) (omega (arith, c.field.type_inv, c.field.ensures)) in
    omega (arith, short, c.new-writer.ensures.at, ap length c.new-writer.ensures.bytes, c.requires)

pub returns-clause-short : goal.returns-clause-short
returns-clause-short c =
    let short = line_short c.args.kind c.args.fault.now (omega (arith, c.line.type_inv, c.line.ensures)) (omega (arith, c.field.type_inv, c.field.ensures)) in
    omega (arith, short, c.end.ensures, c.put_line.ensures.end, c.new-writer.ensures.at)
