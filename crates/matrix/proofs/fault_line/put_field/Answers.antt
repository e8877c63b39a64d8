-- The comma, and then the number.
use Rattle.std.proofs.Common.{decimal}
use Rattle.matrix.proofs.fault_line.put_field.Goals as goal

pub put_byte-requires : goal.put_byte-requires
put_byte-requires g c = g.met.S.Sink.laws.first (decimal c.args.number) c.requires

pub put_number-requires : goal.put_number-requires
put_number-requires g c = g.met.S.Sink.laws.second c.requires c.put_byte.ensures

pub returns : goal.returns
returns g c = g.met.S.Sink.laws.both c.put_byte.ensures c.put_number.ensures
