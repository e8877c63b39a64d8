-- What it says that sizes fit.
use Rattle.std.proofs.Common.{◌≡◌, ℕ, ◌≤◌, true, leb}
use Rattle.std.proofs.lemmas.Bool.{and_parts, leb-true}
use Rattle.ruleset.specs.Registers.{sizes_fit}

pub some_depth : (networks depth rows : ℕ) → sizes_fit networks depth rows ≡ true → 1 ≤ depth
some_depth networks depth rows e = leb-true _ _ (and_parts (leb 1 depth) _ (and_parts (leb networks 24) _ e).1).0
