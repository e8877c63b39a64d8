-- The high half, the colon and the low half, one after another.
use Rattle.std.proofs.Common.{[], ◌∷◌}
use Rattle.address.proofs.hex.write_halves.Goals as goal

pub put_byte-requires : goal.put_byte-requires
put_byte-requires g c =
    let laws = g.met.S.Sink.laws in
    laws.first (g.H.Groups.text c.args.low) (laws.second c.requires c.write.ensures)

pub write-requires-2 : goal.write-requires-2
write-requires-2 g c =
    let laws = g.met.S.Sink.laws in
    laws.second {t = 58 ∷ []} (laws.second c.requires c.write.ensures) c.put_byte.ensures

pub returns : goal.returns
returns g c =
    let laws = g.met.S.Sink.laws in
    laws.both c.write.ensures (laws.both c.put_byte.ensures c.write-2.ensures)
