-- How many rules there may be.
use Rattle.std.specs.Prelude.{ℕ}

-- a ruleset holds at most so many rules
abbrev pub most_rules : ℕ
most_rules = 128
