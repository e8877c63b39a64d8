-- The answer stands at the front of the buffer, and is compared as it stands.
use native.Mathlib.Nat.{sub-zero}
use Rattle.std.proofs.Common.{◌≡◌, ℕ, take, Decides, sym, ap, ◌∙◌, subst, arith}
use Rattle.std.proofs.lemmas.Slice.Eq.{slice_eq-Decides}
use Rattle.std.proofs.lemmas.List.{take_at}
use Rattle.packets.specs.Answers.{answer_text}
use Rattle.packets.proofs.judging.judge.Goals as goal
use Rattle.std.proofs.lemmas.Bool.Decides.{Decides-eqb}

pub returns : goal.returns
returns g c = record {
  end = omega (arith, c.write_answer-end.ensures.short, c.write_answer-end.auto.out, c.requires);
  answers = record {
    answer = c.read_packet-answer.result;
    reads = c.read_packet-answer.ensures.reads;
    is = ap (take c.write_answer-end.result) c.write_answer-end.ensures.wrote ∙ take_at (answer_text g.A.Address.text c.read_packet-answer.result) _ c.write_answer-end.result (sym c.write_answer-end.ensures.end);
  };
  agrees = subst (λ (n : ℕ). Decides c.eq-agrees.result (take n c.write_answer-end.new.out ≡ c.args.told.now)) (sub-zero c.write_answer-end.result) (slice_eq-Decides Decides-eqb _ _ _ c.eq-agrees.ensures);
}
