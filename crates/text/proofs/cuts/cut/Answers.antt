-- The stop that is found is the first.
use Rattle.std.proofs.Common.{◌≡◌, rules}
use borrow.Author.Tests.{tests}
use Rattle.std.proofs.lemmas.Iterator.{IsFirst-from_position, YieldsList-from_slice}
use Rattle.text.proofs.Cutting.{cut_at}
use Rattle.text.proofs.cuts.cut.Goals as goal

pub returns : goal.returns
returns c =
    let first = IsFirst-from_position _ _ _ (λ b. b ≡ c.args.stop) (λ b. b ≡ c.args.stop → ⊥) c.in_ok-at.ensures.ran (YieldsList-from_slice c.args.text.now cc) (λ x q k. search (rules, tests)) (λ x q k. search (rules, tests)) in
    cut_at c.args.stop c.in_ok-at.at c.args.text.now first.0 first.1 first.2
