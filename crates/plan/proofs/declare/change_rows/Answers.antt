use Rattle.std.proofs.Common.{◌≡◌, ℕ, ◌+◌, ◌-◌, ◌≤◌, List, ◌++◌, length, drop, replicate, sym, ap, ◌∙◌, subst, arith}
use Rattle.std.specs.List.{AllByRecursion}
use Rattle.std.proofs.ByRecursion.{All-append, All-drop}
use Rattle.std.proofs.lemmas.List.{drop-drop}
use Rattle.line.specs.declared.run.Run.{Run}
use Rattle.line.proofs.Filling.{filled_after}
use Rattle.plan.specs.Made.{Blank}
use Rattle.plan.proofs.Makes.{blanks}
use Rattle.plan.proofs.declare.change_rows.Goals as goal

pub returns-then-count-old-clause-blank : goal.returns-then-count-old-clause-blank
returns-then-count-old-clause-blank g c =
    let place = g.A.Point.place in
    let void = c.blank.result in
    let rows = c.apply-count.new.rows in
    let n = c.apply-count.result in
    let old = c.args.old in
    let k : ℕ = old - n in
    let blank : Blank place void = record { low = c.blank.ensures.low; high = ap place c.blank.ensures.high ∙ c.blank.ensures.low; label = c.blank.ensures.label } in
    let fits : n + k ≤ length rows = omega (arith, c.apply-count.auto.rows, c.requires.fits, c.if-count-old.true) in
    let up : n + k ≡ old = omega (arith, c.if-count-old.true) in
    λ all.
    let rest : drop (n + k) rows ≡ drop old c.args.rows.now = ap (λ (m : ℕ). drop m rows) up ∙ c.apply-count.ensures.rest old (omega arith) (omega (arith, c.if-count-old.true)) in
    subst (λ (zs : List (Run _ ℕ)). AllByRecursion (Blank place) zs)
    (sym (filled_after void rows c.fill.new.rows n k fits c.fill.ensures ∙ ap (λ (zs : List (Run _ ℕ)). replicate k void ++ zs) rest))
    (All-append (Blank place) (replicate k void) (drop old c.args.rows.now) (blanks place k void blank) all)

pub returns-else-count-old-clause-blank : goal.returns-else-count-old-clause-blank
returns-else-count-old-clause-blank g c =
    let place = g.A.Point.place in
    let n = c.apply-count.result in
    let old = c.args.old in
    let k : ℕ = n - old in
    let up : old + k ≡ n = omega (arith, c.if-count-old.false) in
    λ all.
    subst (λ (zs : List (Run _ ℕ)). AllByRecursion (Blank place) zs)
    (drop-drop k old c.args.rows.now ∙ ap (λ (m : ℕ). drop m c.args.rows.now) up ∙ sym (c.apply-count.ensures.rest n (omega (arith, c.if-count-old.false)) (omega arith)))
    (All-drop (Blank place) k (drop old c.args.rows.now) all)
