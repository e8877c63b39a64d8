-- Two texts with a comma between them.
use Rattle.std.proofs.Common.{◌∷◌}
use Rattle.packets.proofs.answer.write_addresses.Goals as goal

pub put_byte-requires : goal.put_byte-requires
put_byte-requires g c = g.met.S.Sink.laws.first (g.A.Address.text c.args.destination.now) (g.met.S.Sink.laws.second c.requires c.write_text.ensures)

pub write_text-requires-2 : goal.write_text-requires-2
write_text-requires-2 g c = g.met.S.Sink.laws.second (g.met.S.Sink.laws.second c.requires c.write_text.ensures) c.put_byte.ensures

pub returns : goal.returns
returns g c = g.met.S.Sink.laws.both c.write_text.ensures (g.met.S.Sink.laws.both c.put_byte.ensures c.write_text-2.ensures)
