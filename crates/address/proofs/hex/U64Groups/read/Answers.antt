-- The number that the halves are written from, and no number has other halves.
use Rattle.address.specs.Texts.{groups2}
use Rattle.address.proofs.Groups.{read_of, unread}
use Rattle.address.proofs.hex.U64Groups.read.Goals as goal

pub returns-in_err-high : goal.returns-in_err-high
returns-in_err-high c = rw c.from_residual.ensures (λ n h e. unread groups2 32 n c.args.bytes.now c.in_err-high.ensures h e)

pub returns : goal.returns
returns c =
    let p = c.in_ok-high.ensures in
    read_of groups2 32 c.in_ok-high.high c.in_ok-high.low c.from.result c.from-2.result c.args.bytes.now p.0 p.1 c.from.ensures c.from-2.ensures p.2
