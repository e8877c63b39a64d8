-- An answer made of the count that a text has.
use Rattle.std.proofs.Common.{◌≡◌, ℕ, List, Ok, Err, Result, sym, subst}
use Rattle.std.specs.Prelude.{MatchResult, IsOkAnd}
use Rattle.refusal.specs.declared.refusal.Refusal.{Refusal}
use Rattle.planwrite.specs.Writes.{Wrote, LacksRoom}
use Rattle.matrix.specs.declared.answer.Answer.{Answer}
use Rattle.matrix.specs.Answers.{Prints}

-- r tells how many bytes were written, and q is the answer of that kind
pub prints : (of : ℕ → Answer) (bytes before after : List ℕ) (r : Result ℕ Refusal) (q : Result Answer Refusal)
    → MatchResult r (Wrote bytes before after) (LacksRoom bytes before after)
    → MatchResult r (λ n. IsOkAnd q (λ a. a ≡ of n)) (λ e. q ≡ Err e)
    → Prints of bytes before after q
prints of bytes before after (Ok n) (Ok a) wrote is = (n, is, wrote)
prints of bytes before after (Ok n) (Err e) wrote is = absurd is
prints of bytes before after (Err e) q short is = subst (λ q. Prints of bytes before after q) (sym is) short
