-- Two rules with the same parts are the same.
use Rattle.std.proofs.Common.{◌≡◌, ℕ, ◌^◌, ◌<◌}
use mathlib.Core.Path.{PathP, to_path_p}
use native.Mathlib.Bridge.{le_prop}
use Rattle.rules.specs.declared.rule.Rule.{Rule}

below_over : (n a b : ℕ) (p : a ≡ b) (x : a < n) (y : b < n) → PathP (λ i. p i < n) x y
below_over n a b p x y = to_path_p (λ i. p i < n) (le_prop _ y)

pub rule_same : (a b : Rule) → a.id ≡ b.id → a.action ≡ b.action → a.from ≡ b.from → a.to ≡ b.to → a.span ≡ b.span → a.on ≡ b.on → a ≡ b
rule_same a b id action from to span on =
    λ i. record { id = id i; action = action i; from = from i; to = to i; span = span i; on = on i; id_fits = below_over (2 ^ 16) _ _ id a.id_fits b.id_fits i }
