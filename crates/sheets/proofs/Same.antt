-- Two services with the same protocol and port are the same, and two rows with the same ends and label.
use Rattle.std.proofs.Common.{◌≡◌, ℕ, ◌^◌, ◌<◌}
use mathlib.Core.Path.{PathP, to_path_p}
use native.Mathlib.Bridge.{le_prop}
use Rattle.service.specs.declared.service.Service.{Service}
use Rattle.sheets.specs.Strips.{Row}

below_over : (n a b : ℕ) (p : a ≡ b) (x : a < n) (y : b < n) → PathP (λ i. p i < n) x y
below_over n a b p x y = to_path_p (λ i. p i < n) (le_prop _ y)

pub service_same : (a b : Service) → a.protocol ≡ b.protocol → a.port ≡ b.port → a ≡ b
service_same a b p q =
    λ i. record { protocol = p i; port = q i; protocol_fits = below_over (2 ^ 8) _ _ p a.protocol_fits b.protocol_fits i; port_fits = below_over (2 ^ 16) _ _ q a.port_fits b.port_fits i }

pub row_same : (a b : Row) → a.low ≡ b.low → a.high ≡ b.high → a.label ≡ b.label → a ≡ b
row_same a b p q r = λ i. record { low = p i; high = q i; label = r i }
