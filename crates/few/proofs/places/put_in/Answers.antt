use Rattle.std.proofs.Common.{arith, rules}
use Rattle.std.proofs.lemmas.List.{same_lists}
use Rattle.std.proofs.lemmas.Grind.{moves}
use Rattle.std.proofs.lemmas.Bool.{cases_order}
use Rattle.few.proofs.places.put_in.Goals as goal

pub returns : goal.returns
returns g c = same_lists _ _ (search (rules, moves)) (λ k d h. grind (arith, moves, cases_order k c.args.i))
