-- The address whose halves are the halves of the text, and no address has other halves.
use Rattle.std.proofs.Common.{ℕ, ◌/◌, ◌%◌, ◌^◌, ap, ◌∙◌, refl}
use Rattle.address.specs.Texts.{groups4, text6}
use Rattle.address.proofs.Groups.{read_of, unread}
use Rattle.address.proofs.ipv6.Ipv6Address.read_text.Goals as goal

pub returns-in_err-high : goal.returns-in_err-high
returns-in_err-high c = rw c.from_residual.ensures (λ a e. unread groups4 64 a.value c.args.bytes.now c.in_err-high.ensures a.fits e)

pub returns : goal.returns
returns c =
    let p = c.in_ok-high.ensures in
    let n = read_of groups4 64 c.in_ok-high.high c.in_ok-high.low c.in_ok-high.high c.in_ok-high.low c.args.bytes.now p.0 p.1 refl refl p.2 in
    ap (λ (x : ℕ). text6 (x / 2 ^ 64) (x % 2 ^ 64)) c.new.ensures ∙ n.1
