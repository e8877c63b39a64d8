use Rattle.std.proofs.Common.{◌≡◌, ℕ, Ok, Err, Result, MatchResult, sym, refl, ap, ◌∙◌, subst, arith}
use Rattle.std.specs.Result.{IsErrAnd, is_ok}
use Rattle.std.proofs.lemmas.Bool.{false≢true}
use Rattle.refusal.specs.declared.refusal.Refusal.{Refusal}
use Rattle.refusal.specs.Faults.{fault}
use Rattle.std.proofs.lemmas.Result.{err_from_is_err_and}
use Rattle.refusal.specs.declared.fault.Fault.{Fault}
use Rattle.plan.specs.Declarations.{Declaration}
use Rattle.planload.specs.Loads.{Says, Unread, Fails}
use Rattle.std.proofs.lemmas.Grind.{common_steps}
use Rattle.planload.proofs.load.load_row.Goals as goal

pub returns-in_err-entry-clause-loads : goal.returns-in_err-entry-clause-loads
returns-in_err-entry-clause-loads g c ds made =
    let back = err_from_is_err_and c.from_residual.result c.from_residual.ensures.1 in
    rw back.1 (Fails.unread (subst (λ (f : Fault). Unread g.A.Address.text c.args.row.now.line c.args.row.now.bytes.now f) (sym back.2) c.in_err-entry.ensures))

abbrev the_err : Fault → Result ℕ Fault
the_err f = Err f

-- the cause that stands in the fault
refused : (Q : ℕ → Type 0) (R : Refusal → Type 0) (line : ℕ) (r : Result ℕ Refusal) (f : Fault) → MatchResult r Q R → MatchResult r (λ x. the_err f ≡ Ok x) (λ e. IsErrAnd (the_err f) (λ g. g ≡ fault e line 0))
    → (why : Refusal) × R why × (f ≡ fault why line 0)
refused Q R line (Ok x) f h e = absurd (false≢true (ap is_ok e))
refused Q R line (Err why) f h e = (why, h, e)

pub returns-in_err-map_err-clause-loads : goal.returns-in_err-map_err-clause-loads
returns-in_err-map_err-clause-loads g c ds made =
    let place = g.A.Point.place in
    let e = c.in_ok-entry.entry in
    let read = c.in_ok-entry.ensures in
    let d : Declaration = record { name = e.name.now; low = place e.low; high = place e.high } in
    let says : Says g.A.Address.text place c.args.row.now.bytes.now d =
    record { first = e.low; last = e.high; shape = read.0; formed = read.1; low = refl; high = refl } in
    let back = err_from_is_err_and c.from_residual-in_err-map_err.result c.from_residual-in_err-map_err.ensures.1 in
    let cases : MatchResult c.declare.result (λ x. the_err c.in_err-map_err.field-0.0 ≡ Ok x) (λ e. IsErrAnd (the_err c.in_err-map_err.field-0.0) (λ g. g ≡ fault e c.args.row.now.line 0)) = grind (arith, common_steps) in
    let why = refused _ _ c.args.row.now.line c.declare.result c.in_err-map_err.field-0.0 (c.declare.ensures.declared ds made) cases in
    rw back.1 (Fails.refused d why.0 says why.1 (back.2 ∙ why.2))
