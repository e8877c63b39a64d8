use Rattle.service.specs.Spans.{place_of}
use Rattle.rules.proofs.Passes.{Passed}
use Rattle.rules.proofs.pass.deciding.Given as goal

abbrev pub invariant-loop-rule : goal.invariant-loop-rule
invariant-loop-rule l = Passed l.rules l.rule-index l.pair.from l.pair.to (place_of l.service) (place_of l.end)
