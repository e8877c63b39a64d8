-- The fault that a load returns.
use Rattle.std.specs.Prelude.{cond, ℕ}
use Rattle.refusal.specs.declared.fault.Fault.{Fault}
use Rattle.refusal.specs.declared.refusal.Refusal.{Refusal}
use Rattle.refusal.specs.Numbers.{has_line, has_field}

-- the fault of a cause met in this field of this line, each 0 where the cause has none
abbrev pub fault : Refusal → ℕ → ℕ → Fault
fault c line field = record { cause = c; line = cond (has_line c) line 0; field = cond (has_field c) field 0 }
