use Rattle.std.proofs.Common.{◌≡◌, ◌≤◌}
use Rattle.sheets.specs.Strips.{pair_needs}
use Rattle.sheets.specs.Walks.{given}
use Rattle.sheets.proofs.Steps.{Below}
use Rattle.sheets.proofs.strips.Strips.fit.Given as goal

abbrev pub invariant-loop-pair : goal.invariant-loop-pair
invariant-loop-pair l = record {
  networks : l.pair-iterator.networks ≡ l.self.networks;
  fits : Below (λ x y. pair_needs l.rules x y ≤ l.self.depth) l.self.networks (given l.pair-iterator);
}
