use Rattle.std.proofs.Common.{◌≡◌, ℕ, false, sym, refl, ap, ◌∙◌, subst}
use Rattle.std.proofs.lemmas.Bool.{both_ways}
use Rattle.line.specs.Line.{outline}
use Rattle.service.specs.Spans.{place_of}
use Rattle.sheets.specs.Strips.{pair_number, strip}
use Rattle.sheets.specs.Listed.{runs_at}
use Rattle.sheets.specs.Walks.{given}
use Rattle.sheets.proofs.Steps.{step, end, below_next, below_all}
use Rattle.sheets.proofs.Telling.{runs_found}
use Rattle.sheets.proofs.strips.Strips.list_like.Goals as goal

pub returns-then-not-same_runs-clause-runs : goal.returns-then-not-same_runs-clause-runs
returns-then-not-same_runs-clause-runs c _ a b ra rb =
    let s = c.args.self.now in
    let o = c.args.other.now in
    let pair = c.in-Some.pair in
    let now = step s.networks c.loop-pair.pair-iterator c.next.new.self pair c.loop-pair.invariant.networks c.in-Some.ensures.steps in
    let found = subst (λ (k : ℕ). c.strip_of-in-loop-pair.result.now ≡ strip o.depth (pair_number k pair.from pair.to) o.rows.now) (sym c.if-self-other.false) c.strip_of-in-loop-pair.ensures in
    let left = runs_found a s.networks s.depth s.rows.now ra pair.from pair.to now.from now.to _ _ c.strip_of.ensures c.line_of-runs.ensures in
    let right = runs_found b s.networks o.depth o.rows.now rb pair.from pair.to now.from now.to _ _ found c.line_of-others.ensures in (
      λ z. absurd (both_ways false refl z),
      λ alike. absurd (both_ways _ c.if-not-same_runs.true (c.same_runs.ensures.1 (ap (outline place_of) left ∙ alike pair.from pair.to now.from now.to ∙ sym (ap (outline place_of) right)))),
    )

pub loop-pair-preserved : goal.loop-pair-preserved
loop-pair-preserved c =
    let s = c.args.self.now in
    let o = c.args.other.now in
    let pair = c.in-Some.pair in
    let now = step s.networks c.loop-pair.pair-iterator c.next.new.self pair c.loop-pair.invariant.networks c.in-Some.ensures.steps in
    let found = subst (λ (k : ℕ). c.strip_of-in-loop-pair.result.now ≡ strip o.depth (pair_number k pair.from pair.to) o.rows.now) (sym c.if-self-other.false) c.strip_of-in-loop-pair.ensures in
    record {
      networks = now.same;
      alike = λ a b ra rb.
          let left = runs_found a s.networks s.depth s.rows.now ra pair.from pair.to now.from now.to _ _ c.strip_of.ensures c.line_of-runs.ensures in
          let right = runs_found b s.networks o.depth o.rows.now rb pair.from pair.to now.from now.to _ _ found c.line_of-others.ensures in
          below_next (λ x y. outline place_of (runs_at a s.networks s.depth s.rows.now x y) ≡ outline place_of (runs_at b s.networks o.depth o.rows.now x y)) s.networks
          c.loop-pair.pair-iterator c.next.new.self pair now (c.loop-pair.invariant.alike a b ra rb)
          (sym (ap (outline place_of) left) ∙ c.same_runs.ensures.0 c.if-not-same_runs.false ∙ ap (outline place_of) right);
    }

pub returns-clause-runs : goal.returns-clause-runs
returns-clause-runs c _ a b ra rb =
    let s = c.args.self.now in
    let o = c.args.other.now in (
      λ _. below_all (λ x y. outline place_of (runs_at a s.networks s.depth s.rows.now x y) ≡ outline place_of (runs_at b s.networks o.depth o.rows.now x y)) s.networks
          (given c.loop-pair.pair-iterator) (end s.networks c.loop-pair.pair-iterator c.next.new.self c.loop-pair.invariant.networks c.in-None.ensures.steps) (c.loop-pair.invariant.alike a b ra rb),
      λ _. refl,
    )
