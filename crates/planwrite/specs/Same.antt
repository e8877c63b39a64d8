-- Two lists of declarations that say the same plan.
use Rattle.std.specs.Prelude.{◌≡◌, ℕ, ◌<◌, List}
use Rattle.plan.specs.Declarations.{Declaration, names_of, network_of}

-- the same names under the same numbers, and the same network at every place
pub record Same (size : ℕ) (ds es : List Declaration) : Type 0 where
  pub names : names_of es ≡ names_of ds
  pub line : (x : ℕ) → x < size → network_of es x ≡ network_of ds x
