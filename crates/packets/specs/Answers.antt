-- The texts of the reader's answers, and what a judged row is.
use Rattle.std.specs.Prelude.{◌≡◌, ℕ, Bool, List, ◌∷◌, ◌++◌, Ok, Err, decimal, Decides, Result, MatchResult}
use Rattle.refusal.specs.Numbers.{number}
use Rattle.refusal.specs.declared.refusal.Refusal.{Refusal}
use Rattle.address.specs.Layouts.{Layout, layout4, layout6}
use Rattle.address.specs.contracts.ipv4.Ipv4Point.TheImpl as point4
use Rattle.address.specs.contracts.ipv4.Ipv4Address.TheImpl as address4
use Rattle.address.specs.contracts.ipv6.Ipv6Point.TheImpl as point6
use Rattle.address.specs.contracts.ipv6.Ipv6Address.TheImpl as address6
use Rattle.packet.specs.Heads.{head_of, read_head}
use Rattle.packet.specs.declared.packet.Packet.{Packet}
use Rattle.packets.specs.Rows.{hexed, row_text}
use Rattle.packets.specs.declared.row.Kind.{Kind}
use Rattle.packets.specs.declared.row.Kind.TheVariants.{Four, Six}

-- two texts with a comma between them
abbrev pub parted : List ℕ → List ℕ → List ℕ
parted front rest = front ++ (44 ∷ rest)

-- a packet: its addresses, its protocol and its port, parted by commas
abbrev pub packet_text : {P : Type 0} → (P → List ℕ) → Packet P → List ℕ
packet_text text p = parted (parted (text p.source) (text p.destination)) (parted (decimal p.protocol) (decimal p.port))

-- an answer: the packet, or the number of the cause
abbrev pub answer_text : {P : Type 0} → (P → List ℕ) → Result (Packet P) Refusal → List ℕ
answer_text text (Ok p) = packet_text text p
answer_text text (Err cause) = decimal (number cause)

-- the text is that of the reader's answer for the bytes
pub record Answered {P : Type 0} (place : P → ℕ) (text : P → List ℕ) (l : Layout) (bytes written : List ℕ) : Type 0 where
  pub answer : Result (Packet P) Refusal
  pub reads : MatchResult answer (λ p. read_head l bytes ≡ Ok (head_of place p)) (λ e. read_head l bytes ≡ Err e)
  pub is : written ≡ answer_text text answer

-- the same for bytes of a kind
abbrev pub answered_as : Kind → List ℕ → List ℕ → Type 0
answered_as Four bytes written = Answered (point4.ghosts).place (address4.ghosts).text layout4 bytes written
answered_as Six bytes written = Answered (point6.ghosts).place (address6.ghosts).text layout6 bytes written

-- what the row has in it, the answer that is written for its bytes, and whether that is what the row tells
pub record Judges (row written : List ℕ) (agreed : Bool) : Type 0 where
  pub kind : Kind
  pub bytes : List ℕ
  pub told : List ℕ
  pub is : row_text kind (hexed bytes) told ≡ row
  pub answers : answered_as kind bytes written
  pub agrees : Decides agreed (written ≡ told)
