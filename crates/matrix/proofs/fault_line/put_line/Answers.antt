-- The parts of a fault line, one after another.
use Rattle.std.proofs.Common.{ℕ, ◌∷◌, decimal, ap, ◌∙◌}
use Rattle.refusal.specs.Numbers.{number}
use Rattle.text.proofs.Turns.{room_for, room_after, took_both}
use Rattle.matrix.proofs.Parts.{in_parts, as_line}
use Rattle.matrix.proofs.fault_line.put_line.Goals as goal

pub put-requires : goal.put-requires
put-requires g c = g.met.S.Sink.laws.first _ (in_parts (g.S.Sink.has_room c.args.sink.now) c.args.kind c.args.fault.now c.requires)

pub put-requires-2 : goal.put-requires-2
put-requires-2 g c =
    let turns = g.met.S.Sink.laws in
    let r0 = in_parts (g.S.Sink.has_room c.args.sink.now) c.args.kind c.args.fault.now c.requires in
    room_for turns _ (turns.second r0 c.put.ensures) c.word.ensures

pub put_field-requires : goal.put_field-requires
put_field-requires g c =
    let turns = g.met.S.Sink.laws in
    let r0 = in_parts (g.S.Sink.has_room c.args.sink.now) c.args.kind c.args.fault.now c.requires in
    let r1 = turns.second r0 c.put.ensures in
    let r2 = room_after turns r1 c.word.ensures c.put-2.ensures in
    room_for turns _ r2 (ap (λ (n : ℕ). 44 ∷ decimal n) (c.number.ensures ∙ c.layer.ensures))

pub put_field-requires-2 : goal.put_field-requires-2
put_field-requires-2 g c =
    let turns = g.met.S.Sink.laws in
    let r0 = in_parts (g.S.Sink.has_room c.args.sink.now) c.args.kind c.args.fault.now c.requires in
    let r1 = turns.second r0 c.put.ensures in
    let r2 = room_after turns r1 c.word.ensures c.put-2.ensures in
    let r3 = room_after turns r2 (ap (λ (n : ℕ). 44 ∷ decimal n) (c.number.ensures ∙ c.layer.ensures)) c.put_field.ensures in
    room_for turns _ r3 (ap (λ (n : ℕ). 44 ∷ decimal n) (c.number-2.ensures ∙ ap number c.cause.ensures))

pub put_field-requires-3 : goal.put_field-requires-3
put_field-requires-3 g c =
    let turns = g.met.S.Sink.laws in
    let r0 = in_parts (g.S.Sink.has_room c.args.sink.now) c.args.kind c.args.fault.now c.requires in
    let r1 = turns.second r0 c.put.ensures in
    let r2 = room_after turns r1 c.word.ensures c.put-2.ensures in
    let r3 = room_after turns r2 (ap (λ (n : ℕ). 44 ∷ decimal n) (c.number.ensures ∙ c.layer.ensures)) c.put_field.ensures in
    let r4 = room_after turns r3 (ap (λ (n : ℕ). 44 ∷ decimal n) (c.number-2.ensures ∙ ap number c.cause.ensures)) c.put_field-2.ensures in
    room_for turns _ r4 (ap (λ (n : ℕ). 44 ∷ decimal n) c.line.ensures)

pub put_field-requires-4 : goal.put_field-requires-4
put_field-requires-4 g c =
    let turns = g.met.S.Sink.laws in
    let r0 = in_parts (g.S.Sink.has_room c.args.sink.now) c.args.kind c.args.fault.now c.requires in
    let r1 = turns.second r0 c.put.ensures in
    let r2 = room_after turns r1 c.word.ensures c.put-2.ensures in
    let r3 = room_after turns r2 (ap (λ (n : ℕ). 44 ∷ decimal n) (c.number.ensures ∙ c.layer.ensures)) c.put_field.ensures in
    let r4 = room_after turns r3 (ap (λ (n : ℕ). 44 ∷ decimal n) (c.number-2.ensures ∙ ap number c.cause.ensures)) c.put_field-2.ensures in
    let r5 = room_after turns r4 (ap (λ (n : ℕ). 44 ∷ decimal n) c.line.ensures) c.put_field-3.ensures in
    room_for turns _ r5 (ap (λ (n : ℕ). 44 ∷ decimal n) c.field.ensures)

pub put_byte-requires : goal.put_byte-requires
put_byte-requires g c =
    let turns = g.met.S.Sink.laws in
    let r0 = in_parts (g.S.Sink.has_room c.args.sink.now) c.args.kind c.args.fault.now c.requires in
    let r1 = turns.second r0 c.put.ensures in
    let r2 = room_after turns r1 c.word.ensures c.put-2.ensures in
    let r3 = room_after turns r2 (ap (λ (n : ℕ). 44 ∷ decimal n) (c.number.ensures ∙ c.layer.ensures)) c.put_field.ensures in
    let r4 = room_after turns r3 (ap (λ (n : ℕ). 44 ∷ decimal n) (c.number-2.ensures ∙ ap number c.cause.ensures)) c.put_field-2.ensures in
    let r5 = room_after turns r4 (ap (λ (n : ℕ). 44 ∷ decimal n) c.line.ensures) c.put_field-3.ensures in
    room_after turns r5 (ap (λ (n : ℕ). 44 ∷ decimal n) c.field.ensures) c.put_field-4.ensures

pub returns : goal.returns
returns g c =
    let turns = g.met.S.Sink.laws in
    as_line (λ text. g.S.Sink.takes c.args.sink.now text c.put_byte.new.self) c.args.kind c.args.fault.now
    (turns.both c.put.ensures
    (took_both turns c.word.ensures c.put-2.ensures
    (took_both turns (ap (λ (n : ℕ). 44 ∷ decimal n) (c.number.ensures ∙ c.layer.ensures)) c.put_field.ensures
    (took_both turns (ap (λ (n : ℕ). 44 ∷ decimal n) (c.number-2.ensures ∙ ap number c.cause.ensures)) c.put_field-2.ensures
    (took_both turns (ap (λ (n : ℕ). 44 ∷ decimal n) c.line.ensures) c.put_field-3.ensures
    (took_both turns (ap (λ (n : ℕ). 44 ∷ decimal n) c.field.ensures) c.put_field-4.ensures
    c.put_byte.ensures))))))
