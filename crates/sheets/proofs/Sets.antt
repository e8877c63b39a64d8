-- That a table is right has one proof at most, so it comes out of a truncation.
use Rattle.std.proofs.Common.{rules, ◌≡◌, ℕ, ◌^◌, ◌≤◌, List, Some, None, Option, ap}
use mathlib.Core.Logic.{∥∥₁_elim}
use mathlib.Core.HLevel.{→_prop, Π_prop}
use native.Mathlib.Nat.{ℕ_set}
use base.Stored.{Coded, Coded-set, coded_ℕ, coded_via, coded_list, coded×}
use Rattle.line.proofs.Propositions.{listed_prop}
use Rattle.rules.specs.declared.action.Action.{Action}
use Rattle.rules.specs.declared.action.Action.TheVariants.{Accept, Deny}
use Rattle.rules.specs.declared.rule.Rule.{Rule}
use Rattle.service.specs.declared.service.Service.{Service}
use Rattle.service.specs.Spans.{place_of}
use Rattle.rules.specs.Decisions.{decision}
use Rattle.sheets.specs.Strips.{Row, Right, PairSheet, pair_needs, pair_number, strip, blank_row}
use Rattle.sheets.proofs.Same.{service_same}

number : Option Action → ℕ
number None = 0
number (Some Accept) = 1
number (Some Deny) = 2

number_inj : (a b : Option Action) → number a ≡ number b → a ≡ b
unfolding number
number_inj a b e = search rules

pub labels_set : IsSet (Option Action)
labels_set = Coded-set (coded_via coded_ℕ number number_inj)

abbrev service_numbers : Service → ℕ × ℕ
service_numbers s = (s.protocol, s.port)

coded_service : Coded Service
coded_service = coded_via (coded× coded_ℕ coded_ℕ) service_numbers (λ a b e. service_same a b (ap (λ (p : ℕ × ℕ). p.0) e) (ap (λ (p : ℕ × ℕ). p.1) e))

abbrev parts : Row → Service × (Service × Option Action)
parts r = (r.low, (r.high, r.label))

coded_row : Coded Row
coded_row =
    coded_via (coded× coded_service (coded× coded_service (coded_via coded_ℕ number number_inj))) parts
    (λ a b e i. record { low = (e i).0; high = (e i).1.0; label = (e i).1.1 })

pub rows_set : IsSet (List Row)
rows_set = Coded-set (coded_list coded_row)

pair_sheet_prop : (rules : List Rule) (from to : ℕ) (rows : List Row) → IsProp (PairSheet rules from to rows)
unfolding PairSheet
pair_sheet_prop rules from to rows = listed_prop place_of labels_set rows_set (2 ^ 24) blank_row (decision rules from to) (pair_needs rules from to) rows

module _ (rules : List Rule) (networks depth : ℕ) (rows : List Row) where
  right_prop : IsProp (Right rules networks depth rows)
  right_prop x y =
      let drawn : (from to : ℕ) → IsProp (from ≤ networks → to ≤ networks → PairSheet rules from to (strip depth (pair_number networks from to) rows)) =
      λ from to. →_prop (→_prop (pair_sheet_prop rules from to _)) in
      λ i. record { long = ℕ_set _ _ x.long y.long i; drawn = Π_prop (λ from. Π_prop (λ to. drawn from to)) x.drawn y.drawn i }

  pub right_out : ∥ Right rules networks depth rows ∥₁ → Right rules networks depth rows
  right_out r = ∥∥₁_elim r right_prop (λ x. x)
