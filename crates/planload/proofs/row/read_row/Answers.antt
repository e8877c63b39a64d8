use Rattle.std.proofs.Common.{◌≡◌, ℕ, List, Some, None, Ok, Err, Option, Result, MatchOption, sym, ap, ◌∙◌, subst}
use Rattle.std.specs.Option.{ok_or}
use Rattle.std.proofs.lemmas.Result.{err_from_is_err_and}
use Rattle.refusal.specs.declared.refusal.Refusal.TheVariants.{FieldMalformed}
use Rattle.refusal.specs.declared.fault.Fault.{Fault}
use Rattle.refusal.specs.Faults.{fault}
use Rattle.planload.specs.Loads.{Net, Unread}
use Rattle.planload.proofs.row.read_row.Goals as goal

-- what holds of an option that has this value, and of one that has none
had : {X : Type 0} (N : Type 0) (P : X → Type 0) (o : Option X) (x : X) → o ≡ Some x → MatchOption o N P → P x
had N P o x is m = subst (λ q. MatchOption q N P) is m

lacked : {X : Type 0} (N : Type 0) (P : X → Type 0) (o : Option X) → o ≡ None → MatchOption o N P → N
lacked N P o is m = subst (λ q. MatchOption q N P) is m

abbrev fault_or : {T : Type 0} → Fault → Result T Fault → Fault
fault_or e (Ok x) = e
fault_or e (Err f) = f

-- the fault that stands in for a field that is missing
missed : {T : Type 0} (o : Option T) (e f : Fault) (line field number : ℕ) → Err f ≡ ok_or o e → o ≡ None → e ≡ fault FieldMalformed line field → field ≡ number → f ≡ fault FieldMalformed line number
missed o e f line field number is none told at =
    ap (fault_or e) is ∙ (ap (λ q. fault_or e (ok_or q e)) none ∙ (told ∙ ap (λ (n : ℕ). fault FieldMalformed line n) at))

pub returns-then-not-is_well_formed : goal.returns-then-not-is_well_formed
returns-then-not-is_well_formed g c =
    let found = c.in_ok-fields.ensures.ok_part in
    let shape = had _ _ _ _ found c.part_row.ensures.shape in
    let numbers = had _ _ _ _ found c.part_row.ensures.numbers in
    Unread.name _ _ _ shape (sym c.if-not-is_well_formed.ensures)
    (c.malformed.ensures ∙ ap (λ (n : ℕ). fault FieldMalformed c.args.row.now.line n) numbers.0)

pub returns-in_err-low : goal.returns-in_err-low
returns-in_err-low g c =
    let found = c.in_ok-fields.ensures.ok_part in
    let shape = had _ _ _ _ found c.part_row.ensures.shape in
    let numbers = had _ _ _ _ found c.part_row.ensures.numbers in
    let e = c.in_err-low.ensures in
    let back = err_from_is_err_and c.from_residual-in_err-low.result c.from_residual-in_err-low.ensures.1 in
    rw back.1 (Unread.low _ _ _ shape (sym c.if-not-is_well_formed.ensures) (lacked _ _ _ e.ok_part c.read_text.ensures)
    (back.2 ∙ missed c.read_text.result c.malformed-2.result _ c.args.row.now.line _ 3 e.value e.ok_part c.malformed-2.ensures numbers.1))

pub returns-in_err-high : goal.returns-in_err-high
returns-in_err-high g c =
    let found = c.in_ok-fields.ensures.ok_part in
    let fields = c.in_ok-fields.fields in
    let numbers = had _ _ _ _ found c.part_row.ensures.numbers in
    let low = had _ _ _ _ c.in_ok-low.ensures.ok_part c.read_text.ensures in
    let shape = subst (λ (q : List ℕ). Net c.args.row.now.bytes.now fields.name.bytes.now q fields.high.bytes.now) (sym low) (had _ _ _ _ found c.part_row.ensures.shape) in
    let e = c.in_err-high.ensures in
    let back = err_from_is_err_and c.from_residual-in_err-high.result c.from_residual-in_err-high.ensures.1 in
    rw back.1 (Unread.high _ _ c.in_ok-low.low shape (sym c.if-not-is_well_formed.ensures) (lacked _ _ _ e.ok_part c.read_text-2.ensures)
    (back.2 ∙ missed c.read_text-2.result c.malformed-3.result _ c.args.row.now.line _ 4 e.value e.ok_part c.malformed-3.ensures numbers.2))
