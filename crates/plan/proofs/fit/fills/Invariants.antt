use Rattle.std.proofs.Common.{◌≡◌, ℕ, ◌<◌, get_or}
use Rattle.line.specs.declared.run.Run.{Run}
use Rattle.plan.proofs.fit.fills.Given as goal

abbrev pub invariant-loop-i : goal.invariant-loop-i
invariant-loop-i g l = (k : ℕ) → k < l.i → (k ≡ l.at → ⊥) → (d : Run _ ℕ) → (get_or l.runs k d).label ≡ 0 → ⊥
