-- The cursor's step to the next row.
use Rattle.std.proofs.Common.{refl, arith}
use Rattle.text.specs.Cursors.{rows_left, bytes_left}
use Rattle.text.proofs.Walking.{part_front, no_row, next_row}
use Rattle.text.proofs.rows.walk.RowsIterator.next.Goals as goal

pub returns-then-start-self-clause-steps : goal.returns-then-start-self-clause-steps
unfolding rows_left
returns-then-start-self-clause-steps c = (no_row c.args.self.now.parts.text.now c.args.self.now.parts.at c.if-start-self.true, refl)

pub returns-clause-steps : goal.returns-clause-steps
unfolding rows_left bytes_left
returns-clause-steps c =
    let text = c.args.self.now.parts.text.now in
    let at = c.args.self.now.parts.at in
    let bytes = c.part-bytes.result.now in
    let step = c.part-bytes.ensures in
    record {
      left = rw (step.text, step.at) (next_row text at bytes c.if-start-self.false step.bytes);
      start = refl;
      part = part_front 10 text at bytes step.bytes;
      line = step.count;
      counted = refl;
      text = step.text;
      next = step.at;
      less = rw (step.text, step.at) (omega (arith, c.if-start-self.false));
    }

pub returns-clause-goes : goal.returns-clause-goes
unfolding bytes_left
returns-clause-goes c =
    let step = c.part-bytes.ensures in
    record { on = λ _. (tt, tt, rw (step.text, step.at) (omega (arith, c.if-start-self.false))); keeps = tt; rests = λ _. tt }
