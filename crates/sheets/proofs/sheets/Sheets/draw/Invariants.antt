use Rattle.std.proofs.Common.{◌≡◌}
use Rattle.sheets.specs.Walks.{given}
use Rattle.sheets.proofs.Progress.{SoFar}
use Rattle.sheets.proofs.sheets.Sheets.draw.Given as goal

abbrev pub invariant-loop-pair : goal.invariant-loop-pair
invariant-loop-pair l = record {
  networks : l.pair-iterator.networks ≡ l.fn.self.networks;
  lent : l.self.rows.ghost_name ≡ l.fn.self.rows.ghost_name;
  drawn : SoFar l.rules l.fn.self l.self (given l.pair-iterator);
}
