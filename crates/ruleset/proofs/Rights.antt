-- The sheets of a ruleset that is not shut are right, and an edit that is refused leaves them.
use Rattle.std.proofs.Common.{◌≡◌, true, false, List, Some, None, Ok, Err, Option, Result, refl}
use Rattle.refusal.specs.declared.refusal.Refusal.{Refusal}
use Rattle.refusal.specs.declared.refusal.Refusal.TheVariants.{SheetTooLong}
use Rattle.rules.specs.declared.rule.Rule.{Rule}
use Rattle.sheets.specs.Strips.{Right, fits_all}
use Rattle.sheets.proofs.Sets.{right_out}
use Rattle.ruleset.specs.declared.ruleset.Ruleset.{Ruleset}
use Rattle.ruleset.specs.Registers.{Edit, outcome, left_by, unless}
use Rattle.ruleset.specs.Views.{rules_of, register_of, SheetsRight, Edited}

pub right_of : (r : Ruleset) → r.ready ≡ true → Right (rules_of r) r.sheets.networks r.sheets.depth r.sheets.rows.now
right_of r e = right_out (rules_of r) r.sheets.networks r.sheets.depth r.sheets.rows.now (r.sound e)

pub sheets_right : (r : Ruleset) → SheetsRight r
sheets_right r = record { right = right_of r }

-- an edit that is refused, and leaves the ruleset as it was
pub unchanged : (r : Ruleset) (edit : Edit) (answer : Result (Unit {0}) Refusal) → answer ≡ outcome (register_of r) edit → register_of r ≡ left_by (register_of r) edit → Edited r r edit answer
unchanged r edit answer told left = record { answers = told; becomes = left; sheets = sheets_right r; refused = λ _. refl; lent = refl }

-- one whose sheets do not all fit
pub overflows : (r : Ruleset) (next : List Rule) → fits_all next r.sheets.networks r.sheets.depth ≡ false → Edited r r (Ok next) (Err SheetTooLong)
overflows r next e = unchanged r (Ok next) (Err SheetTooLong) (rw e refl) (rw e refl)

-- one that a check stops
pub stopped : (r : Ruleset) (next : List Rule) (cause : Option Refusal) (check answer : Result (Unit {0}) Refusal) (e : Refusal) → check ≡ unless cause tt → check ≡ Err e → answer ≡ Err e
    → Edited r r (unless cause next) answer
stopped r next None check answer e told was is = absurd cc
stopped r next (Some k) check answer e told was is = unchanged r (Err k) answer (cc) refl
