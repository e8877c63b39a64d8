-- The number has at most four digits.
use Rattle.std.proofs.Common.{ap, length, arith}
use Rattle.std.proofs.lemmas.Fmt.{length-decimal-le}
use Rattle.text.specs.Writers.{writes_length}
use Rattle.text.proofs.tests.texts_are_written_one_after_another.Goals as goal

pub put_number-requires : goal.put_number-requires
put_number-requires g c =
    let few = length-decimal-le 4 1040 (omega arith) (omega arith) (omega arith) in
    let placed = c.put_byte.ensures in
    let filled = c.put.ensures in
    omega (arith, few, placed.end, filled.end, c.new-writer.ensures.at, writes_length _ _ _ placed, writes_length _ _ _ filled, ap length c.new-writer.ensures.bytes)
