-- The sheets of the pairs that an edit leaves alone.
use Rattle.std.proofs.Common.{◌≡◌, ℕ, ◌*◌, ◌^◌, List, drop, Option, ap, subst, arith}
use Rattle.std.proofs.lemmas.List.{length-take}
use Rattle.line.specs.Line.{Listed, runs_needed}
use Rattle.service.specs.Spans.{place_of}
use Rattle.rules.specs.declared.action.Action.{Action}
use Rattle.rules.specs.declared.rule.Rule.{Rule}
use Rattle.rules.specs.declared.scope.Scope.{Scope}
use Rattle.rules.specs.Decisions.{decision}
use Rattle.rules.specs.Elsewhere.{AlikeElsewhere}
use Rattle.sheets.specs.Strips.{same_label, Row, Right, PairSheet, pair_needs, pair_number, strip, blank_row}
use Rattle.sheets.specs.Scopes.{FitElsewhere, DrawnElsewhere}
use Rattle.sheets.proofs.Telling.{sheet_fits}

same_needs : (rules next : List Rule) (from to : ℕ) → decision rules from to ≡ decision next from to → pair_needs rules from to ≡ pair_needs next from to
unfolding pair_needs
same_needs rules next from to e = ap (runs_needed same_label (2 ^ 24)) e

same_sheet : (rules next : List Rule) (from to : ℕ) (rows : List Row) → decision rules from to ≡ decision next from to → PairSheet rules from to rows → PairSheet next from to rows
unfolding PairSheet pair_needs
same_sheet rules next from to rows e s =
    subst (λ (f : ℕ → Option Action). Listed place_of (2 ^ 24) blank_row f (runs_needed same_label (2 ^ 24) f) rows) e s

module _ (scope : Scope) (rules next : List Rule) (alike : AlikeElsewhere scope rules next) (networks depth : ℕ) (rows : List Row) (right : Right rules networks depth rows) where
  pub carried_drawn : DrawnElsewhere scope next networks depth rows
  carried_drawn from to a b e = same_sheet rules next from to _ (λ i x. alike from to e x i) (right.drawn from to a b)

  pub carried_fits : FitElsewhere scope next networks depth
  carried_fits from to a b e =
      let same = same_needs rules next from to (λ i x. alike from to e x i) in
      let fits = sheet_fits rules from to (strip depth (pair_number networks from to) rows) (right.drawn from to a b) in
      let len = length-take depth (drop (pair_number networks from to * depth) rows) in
      omega arith
