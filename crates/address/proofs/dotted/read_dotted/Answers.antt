-- No number holds a dot, so the first dot ends it.
use Rattle.std.proofs.Common.{decimal, ◌∙◌, arith}
use Rattle.text.proofs.Decimals.{decimal_lacks}
use Rattle.text.proofs.Cutting.{same_cut, no_cut}
use Rattle.address.proofs.dotted.read_dotted.Goals as goal

pub returns-in_err-parted : goal.returns-in_err-parted
returns-in_err-parted c = rw c.from_residual.ensures (λ n rest h e. no_cut 46 c.args.bytes.now (decimal n) rest c.in_err-parted.ensures e)

pub returns-in_err-read_byte : goal.returns-in_err-read_byte
returns-in_err-read_byte c =
    let k = c.in_ok-parted.ensures in
    let front = c.in_ok-parted.parted.front.now in
    let back = c.in_ok-parted.parted.rest.now in
    rw c.from_residual-in_err-read_byte.ensures
    (λ n rest h e. let s = same_cut 46 (decimal n) front rest back (decimal_lacks 46 n (omega arith) (omega arith)) k.first (e ∙ k.whole) in c.in_err-read_byte.ensures n h s.0)
