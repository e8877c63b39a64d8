-- What is written of a plan when the networks below n are, and of network n the runs before the place p.
use Rattle.std.proofs.Common.{◌≡◌, ℕ, ◌+◌, ◌<◌, ◌≤◌, cond, ◌&&◌, eqb, ltb, arith}
use Rattle.std.proofs.lemmas.Bool.Decides.{nat_tests}

-- the network of the place x, whose label in the plan is v, and 0 while it is not written
abbrev pub shown : ℕ → ℕ → ℕ → ℕ → ℕ
shown n p v x = cond (ltb v n) v (cond (eqb v n && ltb x p) v 0)

pub shown_none : (v x : ℕ) → shown 1 0 v x ≡ 0
shown_none v x = grind (arith, nat_tests)

pub shown_all : (n v x : ℕ) → v < n → shown n 0 v x ≡ v
shown_all n v x lt = grind (arith, nat_tests)

pub shown_elsewhere : (n p x : ℕ) → shown n p 0 x ≡ 0
shown_elsewhere n p x = grind (arith, nat_tests)

pub shown_wait : (n p x : ℕ) → p ≤ x → shown n p n x ≡ 0
shown_wait n p x le = grind (arith, nat_tests)

pub shown_here : (n p x : ℕ) → x < p → shown n p n x ≡ n
shown_here n p x lt = grind (arith, nat_tests)

pub shown_other : (n p q v x : ℕ) → (v ≡ n → ⊥) → shown n p v x ≡ shown n q v x
shown_other n p q v x ne = grind (arith, nat_tests)

-- on either side of p the place makes no difference
pub shown_before : (n p v x y : ℕ) → x < p → y < p → shown n p v x ≡ shown n p v y
shown_before n p v x y a b = grind (arith, nat_tests)

pub shown_after : (n p v x y : ℕ) → p ≤ x → p ≤ y → shown n p v x ≡ shown n p v y
shown_after n p v x y a b = grind (arith, nat_tests)

pub shown_past : (n p q v x : ℕ) → p ≤ x → q ≤ x → shown n p v x ≡ shown n q v x
shown_past n p q v x a b = grind (arith, nat_tests)

pub shown_passed : (n p q v x : ℕ) → x < p → x < q → shown n p v x ≡ shown n q v x
shown_passed n p q v x a b = grind (arith, nat_tests)

-- a network that is written wholly
pub shown_next : (n p v x : ℕ) → x < p → shown n p v x ≡ shown (n + 1) 0 v x
shown_next n p v x lt = grind (arith, nat_tests)
