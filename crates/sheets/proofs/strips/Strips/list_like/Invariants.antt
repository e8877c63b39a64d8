use Rattle.std.proofs.Common.{◌≡◌, List}
use Rattle.line.specs.Line.{outline}
use Rattle.service.specs.Spans.{place_of}
use Rattle.rules.specs.declared.rule.Rule.{Rule}
use Rattle.sheets.specs.Strips.{Right}
use Rattle.sheets.specs.Listed.{runs_at}
use Rattle.sheets.specs.Walks.{given}
use Rattle.sheets.proofs.Steps.{Below}
use Rattle.sheets.proofs.strips.Strips.list_like.Given as goal

abbrev pub invariant-loop-pair : goal.invariant-loop-pair
invariant-loop-pair l = record {
  networks : l.pair-iterator.networks ≡ l.self.networks;
  alike : (a b : List Rule) → Right a l.self.networks l.self.depth l.self.rows.now → Right b l.self.networks l.other.depth l.other.rows.now
      → Below
      (λ x y. outline place_of (runs_at a l.self.networks l.self.depth l.self.rows.now x y) ≡ outline place_of (runs_at b l.self.networks l.other.depth l.other.rows.now x y))
      l.self.networks (given l.pair-iterator);
}
