-- Texts that are taken one after another.
use Rattle.std.specs.Prelude.{ℕ, List, [], ◌++◌}

-- `has_room` tells whether there is room for a text, and `takes` what it is to take one
pub record InTurn {S : Type 0} (has_room : S → List ℕ → Type 0) (takes : S → List ℕ → S → Type 0) : Type 0 where
  -- where two texts have room, the first has
  pub first : {s : S} {t : List ℕ} (u : List ℕ) → has_room s (t ++ u) → has_room s t
  -- and after the first, the second has
  pub second : {s r : S} {t u : List ℕ} → has_room s (t ++ u) → takes s t r → has_room r u
  -- to take no text is to stay
  pub none : {s : S} → has_room s [] → takes s [] s
  -- to take two texts, one after the other, is to take them as one
  pub both : {s r q : S} {t u : List ℕ} → takes s t r → takes r u q → takes s (t ++ u) q
