use Rattle.std.proofs.Common.{◌≡◌, ◌*◌, take}
use Rattle.packets.specs.Rows.{hexed}
use Rattle.packets.proofs.hex.read_hex.Given as goal

abbrev pub invariant-loop-i : goal.invariant-loop-i
invariant-loop-i l = hexed (take l.i l.out) ≡ take (2 * l.i) l.digits
