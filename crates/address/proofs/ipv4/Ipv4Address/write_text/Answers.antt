-- The four bytes, one after another, are the text.
use Rattle.std.proofs.Common.{List, ℕ, ◌++◌, decimal, slice_index, sym, subst, refl}
use Rattle.address.proofs.Dots.{begun, bytes4}
use Rattle.address.proofs.ipv4.Ipv4Address.write_text.Goals as goal

abbrev third : List ℕ → List ℕ
third bytes = begun (slice_index bytes 2) ++ decimal (slice_index bytes 3)

abbrev second : List ℕ → List ℕ
second bytes = begun (slice_index bytes 1) ++ third bytes

pub write_dotted-requires : goal.write_dotted-requires
write_dotted-requires g c =
    let bytes = c.to_be_bytes.result in
    let room = subst (g.S.Sink.has_room c.args.sink.now) (bytes4 c.args.self.now.value _ bytes c.args.self.now.fits c.to_be_bytes.ensures refl) c.requires in
    g.met.S.Sink.laws.first (second bytes) room

pub write_dotted-requires-2 : goal.write_dotted-requires-2
write_dotted-requires-2 g c =
    let bytes = c.to_be_bytes.result in
    let laws = g.met.S.Sink.laws in
    let room = subst (g.S.Sink.has_room c.args.sink.now) (bytes4 c.args.self.now.value _ bytes c.args.self.now.fits c.to_be_bytes.ensures refl) c.requires in
    laws.first (third bytes) (laws.second room c.write_dotted.ensures)

pub write_dotted-requires-3 : goal.write_dotted-requires-3
write_dotted-requires-3 g c =
    let bytes = c.to_be_bytes.result in
    let laws = g.met.S.Sink.laws in
    let room = subst (g.S.Sink.has_room c.args.sink.now) (bytes4 c.args.self.now.value _ bytes c.args.self.now.fits c.to_be_bytes.ensures refl) c.requires in
    laws.first (decimal (slice_index bytes 3)) (laws.second (laws.second room c.write_dotted.ensures) c.write_dotted-2.ensures)

pub put_number-requires : goal.put_number-requires
put_number-requires g c =
    let laws = g.met.S.Sink.laws in
    let room = subst (g.S.Sink.has_room c.args.sink.now) (bytes4 c.args.self.now.value c.from.result c.to_be_bytes.result c.args.self.now.fits c.to_be_bytes.ensures c.from.ensures) c.requires in
    laws.second (laws.second (laws.second room c.write_dotted.ensures) c.write_dotted-2.ensures) c.write_dotted-3.ensures

pub returns : goal.returns
returns g c =
    let laws = g.met.S.Sink.laws in
    let whole = laws.both c.write_dotted.ensures (laws.both c.write_dotted-2.ensures (laws.both c.write_dotted-3.ensures c.put_number.ensures)) in
    let is = bytes4 c.args.self.now.value c.from.result c.to_be_bytes.result c.args.self.now.fits c.to_be_bytes.ensures c.from.ensures in
    subst (λ (t : List ℕ). g.S.Sink.takes c.args.sink.now t c.put_number.new.sink) (sym is) whole
