use Rattle.std.proofs.Common.{◌≡◌, take}
use Rattle.few.specs.Listed.{listed}
use Rattle.names.proofs.name.Name.new.Given as goal

abbrev pub invariant-loop-b : goal.invariant-loop-b
invariant-loop-b l = listed l.bytes ≡ take l.b-index l.text
