-- The values that a short list holds.
use Rattle.std.specs.Prelude.{ℕ, List, take}
use Rattle.few.specs.declared.few.Few.{Few}

-- the values, in their order
abbrev pub listed : {T : Type 0} {N : ℕ} → Few T N → List T
listed few = take few.count few.rows
