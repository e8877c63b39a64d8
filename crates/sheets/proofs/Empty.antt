-- With no rules every line is one run.
use Rattle.std.proofs.Common.{◌≡◌, ℕ, ◌+◌, ◌≤◌, true, [], None, Decides, Option, refl, ap, ◌∙◌, rules, arith}
use Rattle.line.specs.Line.{Keeps}
use Rattle.line.specs.LabelLemmas.{options_tell}
use Rattle.line.proofs.Counts.{changes_first, changes_kept}
use Rattle.rules.specs.declared.action.Action.{Action}
use Rattle.rules.specs.Decisions.{decision}
use Rattle.sheets.specs.Strips.{same_label, pair_needs, fits_all}
use Rattle.sheets.proofs.Fits.{fits_pairs}

labels_tell : (a b : Option Action) → Decides (same_label a b) (a ≡ b)
labels_tell = options_tell _ (λ a b. search rules)

one_run : (from to : ℕ) → pair_needs [] from to ≡ 1
unfolding pair_needs
one_run from to =
    let f : ℕ → Option Action = decision [] from to in
    let keeps : Keeps f None 0 16777215 = record { ordered = omega arith; labelled = λ x _ _. refl } in
    ap (λ (n : ℕ). n + 1) (changes_kept same_label labels_tell f None 0 16777215 keeps ∙ changes_first same_label labels_tell f)

pub empty_fits : (networks depth : ℕ) → 1 ≤ depth → fits_all [] networks depth ≡ true
empty_fits networks depth h = (fits_pairs [] networks depth).1 (λ from to _ _. let e = one_run from to in omega arith)
