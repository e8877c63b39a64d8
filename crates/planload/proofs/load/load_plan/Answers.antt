use Rattle.std.proofs.Common.{◌≡◌, ℕ, ◌+◌, ◌++◌, length, Some, None, sym, refl, ap, ◌∙◌, subst, arith}
use Rattle.std.proofs.lemmas.Result.{err_from_is_err_and}
use Rattle.refusal.specs.declared.fault.Fault.{Fault}
use Rattle.text.specs.Parts.{rows}
use Rattle.text.specs.Cursors.{rows_left}
use Rattle.plan.specs.declared.plan.Plan.{Plan}
use Rattle.plan.specs.Accepted.{Accepted}
use Rattle.plan.specs.Made.{Made}
use Rattle.planload.specs.Loads.{Fails, fault_in}
use Rattle.planload.proofs.Loading.{Goes, go_first, go_past, go_on, go_fault, go_end}
use Rattle.planload.proofs.Only.{outcome}
use Rattle.planload.proofs.load.load_plan.Goals as goal

pub loop-row-init : goal.loop-row-init
loop-row-init g c = (
  refl,
  refl,
  λ ds made.
      let new = c.new-row-items.ensures in
      rw (c.into_iter-row-iterator.ensures.into_iter_gives, new.left, new.line) (go_first g.A.Address.text g.A.Point.place g.A.Point.size (length c.args.plan.now.rows.now) ds (rows c.args.text.now) c.args.plan.now made),
)

pub loop-row-preserved-in-Continue-1 : goal.loop-row-preserved-in-Continue-1
loop-row-preserved-in-Continue-1 g c =
    let inv = c.loop-row.invariant in
    let row = c.in-Some.row in
    let step = c.in-Some.ensures.steps in
    let got = c.in_ok-load_row.ensures in
    let text = g.A.Address.text in
    let place = g.A.Point.place in
    let size = g.A.Point.size in
    let most = length c.args.plan.now.rows.now in
    let all = rows c.args.text.now in
    let before = c.loop-row.row-iterator in
    let after = c.next.new.self in
    let p = c.loop-row.plan in
    let q = c.load_row.new.plan in
    let long : length q.rows.now ≡ most = got.long ∙ inv.0 in (
      long,
      got.lent ∙ inv.1,
      λ ds made.
          let go = inv.2 ds made in
          let e = got.loads (ds ++ go.m) go.made in
          let next : before.parts.count + 1 + 1 ≡ after.parts.count + 1 = omega (arith, step.line, step.counted) in
          subst (λ (n : ℕ). Goes text place size most ds all q n (rows_left after)) next
          (go_on text place size most ds all p q (before.parts.count + 1) (rows_left before) row.bytes.now (rows_left after) step.left (sym c.if-not-is_passed_over.ensures) go
          e.said e.says (subst (λ (n : ℕ). Accepted size n (ds ++ go.m) e.said) long e.accepted) e.made),
    )

pub loop-row-preserved : goal.loop-row-preserved
loop-row-preserved g c =
    let inv = c.loop-row.invariant in
    let row = c.in-Some.row in
    let step = c.in-Some.ensures.steps in
    let before = c.loop-row.row-iterator in
    let after = c.next.new.self in
    let text = g.A.Address.text in
    let place = g.A.Point.place in
    let size = g.A.Point.size in
    let most = length c.args.plan.now.rows.now in
    let all = rows c.args.text.now in (
      inv.0,
      inv.1,
      λ ds made.
          let next : before.parts.count + 1 + 1 ≡ after.parts.count + 1 = omega (arith, step.line, step.counted) in
          subst (λ (n : ℕ). Goes text place size most ds all c.loop-row.plan n (rows_left after)) next
          (go_past text place size most ds all c.loop-row.plan (before.parts.count + 1) (rows_left before) row.bytes.now (rows_left after) step.left (sym c.if-not-is_passed_over.ensures) (inv.2 ds made)),
    )

pub returns-in_err-load_row-clause-loads : goal.returns-in_err-load_row-clause-loads
returns-in_err-load_row-clause-loads g c ds made h =
    let inv = c.loop-row.invariant in
    let row = c.in-Some.row in
    let step = c.in-Some.ensures.steps in
    let got = c.in_err-load_row.ensures in
    let text = g.A.Address.text in
    let place = g.A.Point.place in
    let size = g.A.Point.size in
    let most = length c.args.plan.now.rows.now in
    let all = rows c.args.text.now in
    let before = c.loop-row.row-iterator in
    let after = c.next.new.self in
    let p = c.loop-row.plan in
    let q = c.load_row.new.plan in
    let back = err_from_is_err_and c.from_residual.result c.from_residual.ensures.1 in
    let go = inv.2 ds made in
    let why = got.loads (ds ++ go.m) go.made in
    let f : Fault = c.in_err-load_row.field-0.0 in
    let failed : Fails text place size most (ds ++ go.m) (before.parts.count + 1) row.bytes.now f =
    subst (λ (n : ℕ). Fails text place size most (ds ++ go.m) n row.bytes.now f) step.line
    (subst (λ (n : ℕ). Fails text place size n (ds ++ go.m) row.line row.bytes.now f) inv.0 why) in
    let done = go_fault text place size most ds all p (before.parts.count + 1) (rows_left before) row.bytes.now (rows_left after) f step.left (sym c.if-not-is_passed_over.ensures) go failed in
    let end : Some f ≡ fault_in c.from_residual.result = sym (ap fault_in back.1 ∙ ap Some back.2) in
    outcome text place size most ds c.args.text.now go.m (Some f) c.from_residual.result q (got.long ∙ inv.0)
    (subst (λ (z : Plan g.row.A.Denot). Made place size (ds ++ go.m) z) (sym got.refused) go.made) done end g.met.A.Address.tells

pub returns-clause-loads : goal.returns-clause-loads
returns-clause-loads g c ds made h =
    let inv = c.loop-row.invariant in
    let text = g.A.Address.text in
    let place = g.A.Point.place in
    let size = g.A.Point.size in
    let most = length c.args.plan.now.rows.now in
    let go = inv.2 ds made in
    let done = go_end text place size most ds (rows c.args.text.now) c.loop-row.plan (c.loop-row.row-iterator.parts.count + 1) (rows_left c.loop-row.row-iterator) c.in-None.ensures.steps.0 go in
    outcome text place size most ds c.args.text.now go.m None _ c.loop-row.plan inv.0 go.made done refl g.met.A.Address.tells
