-- The addresses are the numbers in their sixteen bytes.
use Rattle.std.specs.Int.{w128, from_be_bytes}
use Rattle.std.proofs.Common.{ap, ◌∙◌, refl, rules}
use Rattle.address.proofs.Numbers.{sixteen}
use Rattle.address.proofs.ipv6.Ipv6Address.read_header.Goals as goal

pub returns : goal.returns
returns c =
    let bytes = c.args.bytes.now in
    record {
      whole = record { some = search rules; begins = search rules; within = search rules };
      end = refl;
      later = refl;
      protocol = search rules;
      source = c.from.ensures ∙ (c.from_be_bytes.ensures ∙ (ap (from_be_bytes w128) c.bytes_at.ensures ∙ sixteen bytes 8));
      destination = c.from-2.ensures ∙ (c.from_be_bytes-2.ensures ∙ (ap (from_be_bytes w128) c.bytes_at-2.ensures ∙ sixteen bytes 24));
    }
