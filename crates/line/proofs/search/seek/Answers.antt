use Rattle.std.proofs.Common.{leb, length, Bool, rules, arith, ◌<◌}
use Rattle.std.proofs.lemmas.List.Sorted.{IsPartitionPoint-from_clause, IsPartitionedBy-leb}
use Rattle.line.specs.declared.run.Run.{Run}
use Rattle.line.proofs.Points.{le_by_place}
use Rattle.line.proofs.Sought.{later, later_length, later_rise, sought}
use Rattle.line.proofs.search.seek.Goals as goal

pub returns : goal.returns
returns g c =
    let pt = g.P.Point in
    let x = pt.place c.args.p.now in
    let runs = c.args.runs.now in
    let long = later_length runs in
    let bound = c.partition_point.ensures.bound in
    let some = c.in-len1-up.len_at_least in
    let lt : c.partition_point.result < length runs = omega arith in
    let test : Run _ _ → Bool = λ r. leb (pt.place r.low) x in
    record {
      within = lt;
      holds = λ joined d.
          let parted = IsPartitionedBy-leb (λ r. pt.place r.low) (later runs) x (later_rise pt.place pt.size runs joined) in
          let point = IsPartitionPoint-from_clause test (later runs) _ c.partition_point.ensures.partitioned parted (λ a r q k. search (rules, le_by_place pt.place g.P.PartialOrd.partial_cmp g.met.P.Point.ordered_by_place)) in
          sought pt.place pt.size runs joined x c.partition_point.result d (g.met.P.Point.inside _) lt point;
    }
