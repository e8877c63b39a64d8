use Rattle.std.proofs.Common.{◌≡◌, length, ap, arith}
use Rattle.std.specs.List.{remove}
use Rattle.std.proofs.lemmas.List.Edits.{length-remove}
use Rattle.table.specs.Held.{held}
use Rattle.table.proofs.Holds.{moved_is, held_most}
use Rattle.table.proofs.table.RuleTable.move_to.Goals as goal

pub insert-requires-clause-room : goal.insert-requires-clause-room
insert-requires-clause-room c =
    let t = held c.args.self.now in
    let most = held_most c.args.self.now in
    let fewer = length-remove t c.args.i c.requires.from in
    let same : length (held c.remove-rule.new.self) ≡ length (remove t c.args.i) = ap length c.remove-rule.ensures.held in
    omega arith

pub returns : goal.returns
returns c =
    let t = held c.args.self.now in
    let r = c.remove-rule.result in
    let e = c.remove-rule.ensures.value r in
    let held_now = c.remove-rule.ensures.held in
    let is = moved_is t c.args.i c.args.to r (omega arith) in
    cc
