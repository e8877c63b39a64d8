use Rattle.std.proofs.Common.{ap, Ok}
use Rattle.std.proofs.lemmas.Bool.{both_ways}
use Rattle.std.proofs.lemmas.Bool.Decides.{Decides-like}
use Rattle.ruleset.specs.Compares.{Comparable}
use Rattle.ruleset.proofs.Alike.{compared, runs_packets, packets_runs}
use Rattle.ruleset.proofs.ruleset.Ruleset.lists_like.Goals as goal

pub returns : goal.returns
returns c =
    let r = c.args.self.now in
    let o = c.args.other.now in
    let q = c.strips.ensures in
    let p = c.strips-2.ensures in
    let runs = rw (q.networks, q.depth, q.rows, p.networks, p.depth, p.rows) at c.list_like.ensures.runs in
    let other_pairs = rw (q.networks, p.networks) at c.list_like.ensures.other_pairs in
    let told : (both : Comparable r o) → _ = λ both. compared r o both c.list_like.result (runs both.networks) in
    record {
      shut = λ e. absurd (both_ways _ e c.in_ok-check_ready.ensures);
      shut_too = λ e. absurd (both_ways _ e c.in_ok-check_ready-2.ensures);
      other_pairs = λ _ _ other. ap Ok (other_pairs other);
      runs = told;
      packets = λ both size rows ds some accepts long.
          Decides-like _ (runs_packets r o both size rows ds some accepts long) (packets_runs r o both size rows ds some accepts long) (told both);
    }
