-- Every service stands on the scale, and services compare as their places do.
use Rattle.std.specs.Prelude.{◌≡◌, ℕ, ◌+◌, ◌*◌, ◌^◌, ◌<◌, ◌&&◌, Some, ◌==◌}
use Rattle.std.specs.Ordering.{nat_cmp, partial_ordering_then}
use Rattle.std.proofs.Common.{⊎_elim, arith}
use Rattle.std.proofs.lemmas.Bool.{cases_order}

-- the place of a service is below the number of places
pub on_the_scale : (protocol port : ℕ) → protocol < 2 ^ 8 → port < 2 ^ 16 → protocol * 65536 + port < 2 ^ 24
on_the_scale protocol port a b = omega arith

module _ (protocol port other with : ℕ) (a : port < 2 ^ 16) (b : with < 2 ^ 16) where
  -- two services are one where their places are
  pub equal_by_place : (protocol == other && port == with) ≡ (protocol * 65536 + port == other * 65536 + with)
  equal_by_place = grind (arith, cases_order protocol other)

  -- by the protocols, and then by the ports, they stand as their places do
  pub ordered_by_place : partial_ordering_then (Some (nat_cmp protocol other)) (Some (nat_cmp port with)) ≡ Some (nat_cmp (protocol * 65536 + port) (other * 65536 + with))
  ordered_by_place = ⊎_elim (λ same. grind arith) (⊎_elim (λ before. grind arith) (λ after. grind arith)) (cases_order protocol other)
