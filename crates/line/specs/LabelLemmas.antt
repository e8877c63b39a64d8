-- That what `==` answers tells apart the labels which this crate gives.
use Rattle.std.specs.Prelude.{◌≡◌, ℕ, Bool, Decides, Option, ◌==◌, refl}
use Rattle.std.specs.Option.{option_eq}
use Rattle.std.proofs.Common.{rules, subst, sym}

-- two numbers
pub numbers_tell : (a b : ℕ) → Decides (a == b) (a ≡ b)
numbers_tell a b = search rules

-- two labels in an `Option`, where two of the labels tell
pub options_tell : {L : Type 0} (equals : L → L → Bool) → ((a b : L) → Decides (equals a b) (a ≡ b)) → (a b : Option L) → Decides (option_eq equals a b) (a ≡ b)
options_tell equals tells a b = search rules

-- so a test of two labels decides them in an `Option` too
pub options_told : {L : Type 0} (equals : L → L → Bool) → ((a b : L) (r : Bool) → r ≡ equals a b → Decides r (a ≡ b)) → (a b : Option L) (r : Bool)
    → r ≡ option_eq equals a b → Decides r (a ≡ b)
options_told equals told a b r is = subst (λ t. Decides t (a ≡ b)) (sym is) (options_tell equals (λ x y. told x y (equals x y) refl) a b)
