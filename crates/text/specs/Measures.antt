-- Texts that take from a room one after another.
use Rattle.std.specs.Prelude.{◌≡◌, ℕ, ◌+◌, length, refl, Option, Some, None, not, is_some, true}
use Rattle.std.proofs.Common.{sym, ap, ◌∙◌, arith}
use Rattle.std.proofs.lemmas.Grind.{common_steps}
use Rattle.std.proofs.lemmas.List.{length-append}
use Rattle.text.specs.Rooms.{AnyText, left_by, Leaves}
use Rattle.text.specs.Turns.{InTurn}

by_none : (o : Option ℕ) → o ≡ left_by 0 o
by_none None = refl
by_none (Some n) = grind (arith, common_steps)

by_both : (o : Option ℕ) (m n : ℕ) → left_by n (left_by m o) ≡ left_by (m + n) o
by_both None m n = refl
by_both (Some k) m n = grind (arith, common_steps)

-- why a room is a sink
pub leaves_in_turn : InTurn AnyText Leaves
leaves_in_turn = record {
  first = λ {s} {t} u fits. omega arith;
  second = λ {s} {r} {t} {u} fits left. omega arith;
  none = λ {s} fits. by_none s.left;
  both = λ {s} {r} {q} {t} {u} one two.
      two ∙ (ap (left_by (length u)) one ∙ (by_both s.left (length t) (length u) ∙ ap (λ (n : ℕ). left_by n s.left) (sym (length-append t u))));
}

-- a room that is too small stays so, whatever takes from it
pub nothing_leaves : (o : Option ℕ) (n : ℕ) → not (is_some o) ≡ true → o ≡ left_by n o
nothing_leaves None n h = refl
nothing_leaves (Some k) n h = let z : ◌≡◌ {A = ℕ} 0 1 = cc in absurd (omega arith)
