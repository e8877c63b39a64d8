-- Which protocols carry ports, the port that a packet has, and the ports that a span may have.
use Rattle.std.specs.Prelude.{ℕ, Bool, true, false, cond, ◌&&◌, ◌||◌, Some, None, Option, ◌==◌, nat_le, nat_lt}

-- TCP, UDP, DCCP, SCTP and UDP-Lite carry ports, and no other protocol does
abbrev pub carries_ports : ℕ → Bool
carries_ports protocol = protocol == 6 || (protocol == 17 || (protocol == 33 || (protocol == 132 || protocol == 136)))

-- the port of a packet for which a port is given: 0 where its protocol carries none
abbrev pub port_of : ℕ → ℕ → ℕ
port_of protocol port = cond (carries_ports protocol) port 0

-- a protocol number, if there is one, has 8 bits
abbrev pub number_fits : Option ℕ → Bool
number_fits None = true
number_fits (Some protocol) = nat_lt protocol 256

-- a span, of any protocol or of one, has ports to choose from where it is of one that carries ports
abbrev pub has_ports : Option ℕ → Bool
has_ports None = false
has_ports (Some protocol) = carries_ports protocol

-- the ports that a span may have: a low one that is not above the high one, and all ports where there are none to choose from
abbrev pub ports_allowed : Option ℕ → ℕ → ℕ → Bool
ports_allowed protocol low high = cond (has_ports protocol) (nat_le low high) (low == 0 && high == 65535)
