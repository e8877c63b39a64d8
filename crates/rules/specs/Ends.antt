-- Which networks the from or the to of a rule contains, and which pairs both do. Each is one network, or any where there is none.
use Rattle.std.specs.Prelude.{ℕ, Bool, true, ◌&&◌, Some, None, Option, ◌==◌, nat_le}
use Rattle.rules.specs.declared.scope.Scope.{Scope}

-- any contains every network, and else there is one
abbrev pub end_has : Option ℕ → ℕ → Bool
end_has None network = true
end_has (Some n) network = n == network

-- the end names no network above the last
abbrev pub end_known : Option ℕ → ℕ → Bool
end_known None networks = true
end_known (Some n) networks = nat_le n networks

-- a pair of networks is in a scope when its from and its to contain them
abbrev pub scope_has : Scope → ℕ → ℕ → Bool
scope_has s from to = end_has s.from from && end_has s.to to
