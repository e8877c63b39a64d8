-- How the head of a packet stands in its bytes.
use Rattle.std.specs.Prelude.{◌≡◌, ℕ, zero, suc, ◌+◌, ◌*◌, ◌/◌, ◌%◌, ◌^◌, ◌<◌, ◌≤◌, Bool, true, false, ◌&&◌, List, length, ◌==◌, nat_le, nat_lt, slice_index}
use Rattle.address.specs.declared.header.Header.{Header}

-- the number in `count` bytes from the place `at` on, the high byte first
abbrev pub number : List ℕ → ℕ → ℕ → ℕ
number bytes at zero = 0
number bytes at (suc count) = number bytes at count * 256 + slice_index bytes (at + count)

-- where a kind of packets has what: whether byte 0 begins such a head, where its header ends,
-- whether it is the head of a later fragment, its protocol, and its addresses by place
pub record Layout : Type 0 where
  pub begins : ℕ → Bool
  pub end : List ℕ → ℕ
  pub later : List ℕ → Bool
  pub protocol : List ℕ → ℕ
  pub source : List ℕ → ℕ
  pub destination : List ℕ → ℕ

-- the head of RFC 791: version 4 and the header's length in words of four bytes, at least 5; the low 13 bits of bytes 6 and 7 are the fragment offset
abbrev pub layout4 : Layout
layout4 = record {
  begins = λ first. (first / 16 == 4) && nat_le 5 (first % 16);
  end = λ bytes. number bytes 0 1 % 16 * 4;
  later = λ bytes. nat_lt 0 (number bytes 6 2 % 2 ^ 13);
  protocol = λ bytes. number bytes 9 1;
  source = λ bytes. number bytes 12 4;
  destination = λ bytes. number bytes 16 4;
}

-- the head of RFC 8200: version 6, and 40 bytes with the next header in byte 6
abbrev pub layout6 : Layout
layout6 = record {
  begins = λ first. (first / 16 == 6);
  end = λ bytes. 40;
  later = λ bytes. false;
  protocol = λ bytes. number bytes 6 1;
  source = λ bytes. number bytes 8 16;
  destination = λ bytes. number bytes 24 16;
}

-- the bytes begin with a whole header
pub record Whole (l : Layout) (bytes : List ℕ) : Type 0 where
  pub some : 0 < length bytes
  pub begins : l.begins (slice_index bytes 0) ≡ true
  pub within : l.end bytes ≤ length bytes

-- the header says what stands in the bytes, its addresses by place
pub record Says {P : Type 0} (place : P → ℕ) (l : Layout) (bytes : List ℕ) (h : Header P) : Type 0 where
  pub whole : Whole l bytes
  pub end : h.end ≡ l.end bytes
  pub later : h.later ≡ l.later bytes
  pub protocol : h.protocol ≡ l.protocol bytes
  pub source : place h.source ≡ l.source bytes
  pub destination : place h.destination ≡ l.destination bytes

-- a header says the same of all bytes that it begins
pub record Steady (l : Layout) (bytes others : List ℕ) : Type 0 where
  pub end : l.end others ≡ l.end bytes
  pub later : l.later others ≡ l.later bytes
  pub protocol : l.protocol others ≡ l.protocol bytes
  pub source : l.source others ≡ l.source bytes
  pub destination : l.destination others ≡ l.destination bytes
