-- The cursor's step to the next field.
use Rattle.std.proofs.Common.{refl, arith}
use Rattle.text.specs.Cursors.{fields_left, field_bytes_left}
use Rattle.text.proofs.Walking.{no_field, next_field}
use Rattle.text.proofs.fields.walk.FieldsIterator.next.Goals as goal

pub returns-then-self-clause-steps : goal.returns-then-self-clause-steps
unfolding fields_left
returns-then-self-clause-steps c = (no_field c.args.self.now.parts.text.now c.args.self.now.parts.at c.if-self.true, refl)

pub returns-clause-steps : goal.returns-clause-steps
unfolding fields_left field_bytes_left
returns-clause-steps c =
    let text = c.args.self.now.parts.text.now in
    let at = c.args.self.now.parts.at in
    let step = c.part-bytes.ensures in
    record {
      left = rw (step.text, step.at) (next_field text at c.part-bytes.result.now c.if-self.false step.bytes);
      number = step.count;
      counted = refl;
      row = step.text;
      less = rw (step.text, step.at) (omega (arith, c.if-self.false));
    }

pub returns-clause-goes : goal.returns-clause-goes
unfolding field_bytes_left
returns-clause-goes c =
    let step = c.part-bytes.ensures in
    record { on = λ _. (tt, tt, rw (step.text, step.at) (omega (arith, c.if-self.false))); keeps = tt; rests = λ _. tt }
