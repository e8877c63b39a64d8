-- What it says that the lines of all pairs fit, and that all strips are drawn.
use Rattle.std.proofs.Common.{◌≡◌, ℕ, ◌+◌, ◌^◌, ◌<◌, ◌≤◌, Bool, true, false, leb, List, Some, None, is_none, Option, Decides, refl, ap, ◌∙◌, subst, arith}
use Rattle.std.proofs.lemmas.Bool.{leb-true, le-leb}
use Rattle.std.proofs.lemmas.Bool.Decides.{Decides-below_and, Decides-like}
use Rattle.line.specs.Line.{runs_needed, Listed, Counted}
use Rattle.service.specs.Spans.{place_of}
use Rattle.rules.specs.declared.pair.Pair.{Pair}
use Rattle.rules.specs.declared.rule.Rule.{Rule}
use Rattle.rules.specs.declared.action.Action.{Action}
use Rattle.rules.specs.Decisions.{decision}
use Rattle.sheets.specs.Strips.{same_label, Row, blank_row, pair_needs, PairSheet, all_below, fits_all}

pub all_below_each : (test : ℕ → Bool) (P : ℕ → Type 0) → ((k : ℕ) → Decides (test k) (P k)) → (n : ℕ) → Decides (all_below test n) ((k : ℕ) → k < n → P k)
unfolding all_below
all_below_each test P each n = Decides-below_and test P (all_below test) each refl (λ _. refl) n

module _ (rules : List Rule) (networks depth : ℕ) where
  pub fits_pairs : Decides (fits_all rules networks depth) ((from to : ℕ) → from ≤ networks → to ≤ networks → pair_needs rules from to ≤ depth)
  unfolding fits_all
  fits_pairs =
      Decides-like _ (λ all from to a b. all from (omega arith) to (omega arith)) (λ all from a to b. all from to (omega arith) (omega arith))
      (all_below_each _ _ (λ from. all_below_each (λ to. leb (pair_needs rules from to) depth) (λ to. pair_needs rules from to ≤ depth) (λ to. (leb-true _ _, le-leb _ _)) (networks + 1)) (networks + 1))

-- what is needed and what is listed for a pair, in the words of lines
module _ (rules : List Rule) (pair : Pair) where
  pub needs_is : runs_needed same_label (2 ^ 24) (decision rules pair.from pair.to) ≡ pair_needs rules pair.from pair.to
  unfolding pair_needs
  needs_is = refl

  pub sheet_is : (blank : Row) → blank ≡ blank_row → (rows : List Row)
      → Listed place_of (2 ^ 24) blank (decision rules pair.from pair.to) (runs_needed same_label (2 ^ 24) (decision rules pair.from pair.to)) rows → PairSheet rules pair.from pair.to rows
  unfolding PairSheet pair_needs
  sheet_is blank e rows s = subst (λ (b : Row). Listed place_of (2 ^ 24) b (decision rules pair.from pair.to) (pair_needs rules pair.from pair.to) rows) e s

-- the same where they are told of a copy of the rules and the pair
module _ (rules copy : List Rule) (pair same : Pair) (e : copy ≡ rules) (f : same ≡ pair) where
  pub needs_copied : runs_needed same_label (2 ^ 24) (decision copy same.from same.to) ≡ pair_needs rules pair.from pair.to
  needs_copied = needs_is copy same ∙ ap (λ (l : List Rule). pair_needs l same.from same.to) e ∙ ap (λ (p : Pair). pair_needs rules p.from p.to) f

  pub sheet_copied : (blank : Row) → blank ≡ blank_row → (rows : List Row)
      → Listed place_of (2 ^ 24) blank (decision copy same.from same.to) (runs_needed same_label (2 ^ 24) (decision copy same.from same.to)) rows → PairSheet rules pair.from pair.to rows
  sheet_copied blank b rows s = subst (λ (p : Pair). PairSheet rules p.from p.to rows) f (subst (λ (l : List Rule). PairSheet l same.from same.to rows) e (sheet_is copy same blank b rows s))

-- what counting told: the runs are more than the depth exactly where it answered none
module _ (f : ℕ → Option Action) (most : ℕ) where
  pub too_long : (r : Option ℕ) → Counted same_label (2 ^ 24) f most r → is_none r ≡ true → most < runs_needed same_label (2 ^ 24) f
  too_long None counted e = counted
  too_long (Some n) counted e = let z : ◌≡◌ {A = ℕ} 0 1 = cc in absurd (omega arith)

  pub long_enough : (r : Option ℕ) → Counted same_label (2 ^ 24) f most r → is_none r ≡ false → runs_needed same_label (2 ^ 24) f ≤ most
  long_enough None counted e = let z : ◌≡◌ {A = ℕ} 0 1 = cc in absurd (omega arith)
  long_enough (Some n) counted e = let a = counted.0 in let b = counted.1 in omega arith
