-- What a header says of longer bytes.
use Rattle.std.specs.Prelude.{◌≡◌, ℕ, zero, suc, ◌+◌, ◌*◌, ◌%◌, ◌^◌, ◌≤◌, List, ◌++◌, length, nat_lt, refl}
use Rattle.std.proofs.Common.{ap, arith}
use Rattle.std.proofs.lemmas.Bool.Decides.{nat_tests}
use Rattle.std.proofs.lemmas.List.{get_or_append_left}
use Rattle.address.specs.Layouts.{number, layout4, layout6, Whole, Steady}

-- a number within the bytes stays where more bytes follow
pub number_append : (bytes more : List ℕ) (at count : ℕ) → at + count ≤ length bytes → number (bytes ++ more) at count ≡ number bytes at count
number_append bytes more at zero h = refl
number_append bytes more at (suc count) h =
    let n = number_append bytes more at count (omega arith) in
    let b = get_or_append_left bytes more 0 (at + count) (omega arith) in
    omega arith

-- what stands after a whole IPv4 header does not change what it says
pub steady4 : (bytes more : List ℕ) → Whole layout4 bytes → Steady layout4 bytes (bytes ++ more)
steady4 bytes more w =
    let long : 20 ≤ length bytes = let b = w.begins in let e = w.within in grind (arith, nat_tests) in
    record {
      end = ap (λ (n : ℕ). n % 16 * 4) (number_append bytes more 0 1 (omega arith));
      later = ap (λ (n : ℕ). nat_lt 0 (n % 2 ^ 13)) (number_append bytes more 6 2 (omega arith));
      protocol = number_append bytes more 9 1 (omega arith);
      source = number_append bytes more 12 4 (omega arith);
      destination = number_append bytes more 16 4 (omega arith);
    }

-- what stands after a whole IPv6 header does not change what it says
pub steady6 : (bytes more : List ℕ) → Whole layout6 bytes → Steady layout6 bytes (bytes ++ more)
steady6 bytes more w =
    let long : 40 ≤ length bytes = w.within in
    record {
      end = refl;
      later = refl;
      protocol = number_append bytes more 6 1 (omega arith);
      source = number_append bytes more 8 16 (omega arith);
      destination = number_append bytes more 24 16 (omega arith);
    }
