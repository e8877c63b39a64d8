-- Going through the pairs of networks in their order. No user of the sheets meets these.
use Rattle.std.specs.Prelude.{◌≡◌, ℕ, ◌+◌, ◌≤◌, Some, None, Option, MatchOption}
use Rattle.rules.specs.declared.pair.Pair.{Pair}
use Rattle.sheets.specs.declared.pairs.Pairs.{Pairs}
use Rattle.sheets.specs.Strips.{pairs_of, pair_number}

-- how many pairs stand before this one, and how many there are
abbrev pub number_before : ℕ → Option Pair → ℕ
number_before networks None = pairs_of networks
number_before networks (Some pair) = pair_number networks pair.from pair.to

-- how many pairs have come
abbrev pub given : Pairs → ℕ
given s = number_before s.networks s.next

-- the pair with the next number comes, or none where all have come
abbrev pub GivesPair : Pairs → Option Pair → Pairs → Type 0
GivesPair s r t =
    (t.networks ≡ s.networks)
    × MatchOption r (given s ≡ pairs_of s.networks)
    (λ pair. (pair.from ≤ s.networks) × (pair.to ≤ s.networks) × (given s ≡ pair_number s.networks pair.from pair.to) × (given t ≡ given s + 1))
