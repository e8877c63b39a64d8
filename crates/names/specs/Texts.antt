-- The texts that a table of names holds.
use Rattle.std.specs.Prelude.{ℕ, List, map}
use Rattle.few.specs.Listed.{listed}
use Rattle.names.specs.declared.name.Name.{Name}
use Rattle.names.specs.declared.name.Names.{Names}

-- the bytes of a name
abbrev pub text_of : Name → List ℕ
text_of n = listed n.bytes

-- the names in the order of their numbers
abbrev pub texts : Names → List (List ℕ)
texts ns = map text_of (listed ns.list)
