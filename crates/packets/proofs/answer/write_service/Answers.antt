-- Two numbers with a comma between them.
use Rattle.std.proofs.Common.{◌∷◌, decimal}
use Rattle.packets.proofs.answer.write_service.Goals as goal

pub put_byte-requires : goal.put_byte-requires
put_byte-requires g c = g.met.S.Sink.laws.first (decimal c.args.port) (g.met.S.Sink.laws.second c.requires c.put_number.ensures)

pub put_number-requires-2 : goal.put_number-requires-2
put_number-requires-2 g c = g.met.S.Sink.laws.second (g.met.S.Sink.laws.second c.requires c.put_number.ensures) c.put_byte.ensures

pub returns : goal.returns
returns g c = g.met.S.Sink.laws.both c.put_number.ensures (g.met.S.Sink.laws.both c.put_byte.ensures c.put_number-2.ensures)
