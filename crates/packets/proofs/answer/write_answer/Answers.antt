-- An answer is short, and its parts are written one after another.
use Rattle.std.proofs.Common.{◌≡◌, List, ℕ, ◌∷◌, length, decimal, sym, ap, ◌∙◌, subst, rules, arith}
use Rattle.std.proofs.lemmas.List.{length-append}
use Rattle.text.specs.Buffers.{Writes}
use Rattle.text.specs.Writers.{writes_in_turn, writes_length}
use Rattle.packet.specs.declared.packet.Packet.{Packet}
use Rattle.packets.specs.Answers.{parted, packet_text, answer_text}
use Rattle.packets.proofs.Lengths.{short_byte, short_port}
use Rattle.packets.proofs.answer.write_answer.Goals as goal
use Rattle.packets.proofs.answer.write_answer.Goals.{in-Ok, in-Err}

-- the parts that are told of a packet are its own
packet_is : {P : Type 0} (text : P → List ℕ) (p : Packet P) (a b : P) (m n : ℕ) → a ≡ p.source → b ≡ p.destination → m ≡ p.protocol → n ≡ p.port
    → parted (parted (text a) (text b)) (parted (decimal m) (decimal n)) ≡ packet_text text p
packet_is text p a b m n s d q r = λ i. parted (parted (text (s i)) (text (d i))) (parted (decimal (q i)) (decimal (r i)))

pub write_service-requires : goal.write_service-requires
write_service-requires g c =
    let text = g.A.Address.text in
    let short = g.met.A.Address.short in
    let one = c.write_addresses.ensures in
    let two = c.put_byte.ensures in
    omega (
      arith,
      one.end,
      two.end,
      writes_length _ _ _ one,
      writes_length _ _ _ two,
      c.new-writer.ensures.at,
      ap length c.new-writer.ensures.bytes,
      c.requires,
      length-append (text c.source.result) (44 ∷ text c.destination.result),
      short c.source.result,
      short c.destination.result,
      length-append (decimal c.protocol.result) (44 ∷ decimal c.port.result),
      short_byte c.protocol.result c.protocol.type_inv,
      short_port c.port.result c.port.type_inv,
    )

pub put_number-requires : goal.put_number-requires
put_number-requires g c =
    omega (arith, short_byte c.number.result c.number.type_inv, c.new-writer.ensures.at, ap length c.new-writer.ensures.bytes, c.requires)

pub returns-clause-short : goal.returns-clause-short
returns-clause-short g c =
    let text = g.A.Address.text in
    let short = g.met.A.Address.short in
    elim c.match-answer.branch [
      | in-Ok w ↦
          omega (
            arith,
            c.end.ensures,
            w.write_addresses.ensures.end,
            w.put_byte.ensures.end,
            w.write_service.ensures.end,
            ap (λ v. v.at) w.writer-is,
            c.new-writer.ensures.at,
            length-append (text w.source.result) (44 ∷ text w.destination.result),
            short w.source.result,
            short w.destination.result,
            length-append (decimal w.protocol.result) (44 ∷ decimal w.port.result),
            short_byte w.protocol.result w.protocol.type_inv,
            short_port w.port.result w.port.type_inv,
          )
      | in-Err w ↦
          omega (arith, c.end.ensures, w.put_number.ensures.end, ap (λ v. v.at) w.writer-is, c.new-writer.ensures.at, short_byte w.number.result w.number.type_inv)
    ]

pub returns-clause-wrote : goal.returns-clause-wrote
returns-clause-wrote g c =
    let text = g.A.Address.text in
    let start = c.new-writer.result in
    let whole : Writes start (answer_text text c.args.answer.now) c.match-answer.writer =
    elim c.match-answer.branch [
      | in-Ok w ↦
          let same : parted (parted (text w.source.result) (text w.destination.result)) (parted (decimal w.protocol.result) (decimal w.port.result)) ≡ answer_text text c.args.answer.now
          = packet_is text w.in-Ok.packet _ _ _ _ w.source.ensures w.destination.ensures w.protocol.ensures w.port.ensures.value ∙ ap (answer_text text) (sym w.in-Ok.is) in
          subst (λ v. Writes start (answer_text text c.args.answer.now) v) (sym w.writer-is)
          (subst (λ t. Writes start t w.write_service.new.sink) same
          (writes_in_turn.both w.write_addresses.ensures (writes_in_turn.both w.put_byte.ensures w.write_service.ensures)))
      | in-Err w ↦
          let same : decimal w.number.result ≡ answer_text text c.args.answer.now = cc in
          subst (λ v. Writes start (answer_text text c.args.answer.now) v) (sym w.writer-is)
          (subst (λ t. Writes start t w.put_number.new.sink) same w.put_number.ensures)
    ] in
    search rules
