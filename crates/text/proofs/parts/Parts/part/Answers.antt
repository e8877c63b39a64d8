-- The part fits in the rest of the text.
use Rattle.std.proofs.Common.{arith}
use Rattle.text.proofs.Walking.{rest_part, part_short}
use Rattle.text.proofs.parts.Parts.part.Goals as goal

pub invariant_of-self : goal.invariant_of-self
invariant_of-self g c =
    let text = c.args.self.now.text.now in
    let at = c.args.self.now.at in
    let bytes = c.first_part-bytes.result.now in
    let is = rest_part g.row.STOP text at bytes c.first_part-bytes.ensures in
    let short = part_short g.row.STOP text at bytes c.requires is in
    let counted = c.args.self.now.counted in
    record { within = omega arith; counted = omega arith }
