-- What a reader answers of the bytes of a packet.
use Rattle.std.specs.Prelude.{◌≡◌, ℕ, ◌+◌, Bool, cond, not, List, ◌++◌, length, Ok, Err, Result, ◌≢◌, nat_le, nat_lt, slice_index}
use Rattle.refusal.specs.declared.refusal.Refusal.{Refusal}
use Rattle.refusal.specs.declared.refusal.Refusal.TheVariants.{PacketTooShort, WrongHeader, LaterFragment}
use Rattle.service.specs.Ports.{carries_ports, port_of}
use Rattle.address.specs.Layouts.{Layout, number}
use Rattle.packet.specs.declared.packet.Packet.{Packet}

-- what is read of a packet: its addresses by place, its protocol and its port
pub record Head : Type 0 where
  pub source : ℕ
  pub destination : ℕ
  pub protocol : ℕ
  pub port : ℕ

-- the head of a packet
abbrev pub head_of : {P : Type 0} → (P → ℕ) → Packet P → Head
head_of place p = record { source = place p.source; destination = place p.destination; protocol = p.protocol; port = p.port }

-- the head that stands in the bytes, its port in the third and the fourth byte after the header
abbrev pub head : Layout → List ℕ → Head
head l bytes = record {
  source = l.source bytes;
  destination = l.destination bytes;
  protocol = l.protocol bytes;
  port = port_of (l.protocol bytes) (number bytes (l.end bytes + 2) 2);
}

-- how many bytes a head needs: those of the header, and four more where the protocol carries ports
abbrev pub needed : Layout → List ℕ → ℕ
needed l bytes = l.end bytes + cond (carries_ports (l.protocol bytes)) 4 0

-- a check: the cause where it fails, and else the answer of what follows
abbrev pub check : Bool → Refusal → Result Head Refusal → Result Head Refusal
check passed cause next = cond passed next (Err cause)

-- the answer for these bytes: five checks in this order, and then the head
abbrev pub read_head : Layout → List ℕ → Result Head Refusal
read_head l bytes =
    check (nat_lt 0 (length bytes)) PacketTooShort
    (check (l.begins (slice_index bytes 0)) WrongHeader
    (check (nat_le (l.end bytes) (length bytes)) PacketTooShort (check (not (l.later bytes)) LaterFragment (check (nat_le (needed l bytes) (length bytes)) PacketTooShort (Ok (head l bytes))))))

-- where the bytes are not too few, the answer stays whatever follows them
abbrev pub Settled : Layout → List ℕ → Type 0
Settled l bytes = (more : List ℕ) → (read_head l bytes ≢ Err PacketTooShort) → read_head l (bytes ++ more) ≡ read_head l bytes
