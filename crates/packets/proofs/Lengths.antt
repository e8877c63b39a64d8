-- How long the texts of numbers are.
use Rattle.std.proofs.Common.{ℕ, ◌^◌, ◌<◌, ◌≤◌, length, decimal, arith}
use Rattle.std.proofs.lemmas.Fmt.{length-decimal-le}

-- a number of 8 bits has at most three digits
pub short_byte : (n : ℕ) → n < 2 ^ 8 → length (decimal n) ≤ 3
short_byte n h = length-decimal-le 3 n (omega arith) (omega arith) (omega arith)

-- a number of 16 bits has at most five digits
pub short_port : (n : ℕ) → n < 2 ^ 16 → length (decimal n) ≤ 5
short_port n h = length-decimal-le 5 n (omega arith) (omega arith) (omega arith)
