-- The parts of a row, one after another.
use Rattle.planwrite.proofs.rows.write_row.Goals as goal

pub put-requires : goal.put-requires
put-requires g c = g.met.S.Sink.laws.first _ c.requires

pub put-requires-2 : goal.put-requires-2
put-requires-2 g c =
    let turns = g.met.S.Sink.laws in
    turns.first _ (turns.second c.requires c.put.ensures)

pub put_byte-requires : goal.put_byte-requires
put_byte-requires g c =
    let turns = g.met.S.Sink.laws in
    let r1 = turns.second c.requires c.put.ensures in
    turns.first _ (turns.second r1 c.put-2.ensures)

pub write_text-requires : goal.write_text-requires
write_text-requires g c =
    let turns = g.met.S.Sink.laws in
    let r1 = turns.second c.requires c.put.ensures in
    let r2 = turns.second r1 c.put-2.ensures in
    turns.first _ (turns.second r2 c.put_byte.ensures)

pub put_byte-requires-2 : goal.put_byte-requires-2
put_byte-requires-2 g c =
    let turns = g.met.S.Sink.laws in
    let r1 = turns.second c.requires c.put.ensures in
    let r2 = turns.second r1 c.put-2.ensures in
    let r3 = turns.second r2 c.put_byte.ensures in
    turns.first _ (turns.second r3 c.write_text.ensures)

pub write_text-requires-2 : goal.write_text-requires-2
write_text-requires-2 g c =
    let turns = g.met.S.Sink.laws in
    let r1 = turns.second c.requires c.put.ensures in
    let r2 = turns.second r1 c.put-2.ensures in
    let r3 = turns.second r2 c.put_byte.ensures in
    let r4 = turns.second r3 c.write_text.ensures in
    turns.first _ (turns.second r4 c.put_byte-2.ensures)

pub put_byte-requires-3 : goal.put_byte-requires-3
put_byte-requires-3 g c =
    let turns = g.met.S.Sink.laws in
    let r1 = turns.second c.requires c.put.ensures in
    let r2 = turns.second r1 c.put-2.ensures in
    let r3 = turns.second r2 c.put_byte.ensures in
    let r4 = turns.second r3 c.write_text.ensures in
    turns.second (turns.second r4 c.put_byte-2.ensures) c.write_text-2.ensures

pub returns : goal.returns
returns g c =
    let turns = g.met.S.Sink.laws in
    turns.both c.put.ensures
    (turns.both c.put-2.ensures (turns.both c.put_byte.ensures (turns.both c.write_text.ensures (turns.both c.put_byte-2.ensures (turns.both c.write_text-2.ensures c.put_byte-3.ensures)))))
