use Rattle.std.proofs.Common.{◌≡◌, ℕ, ◌==◌, Bool, Decides, not, take, ap, ◌∙◌, rules, arith}
use Rattle.std.proofs.lemmas.Bool.Decides.{Decides-at, Decides-not, Decides-eqb}
use Rattle.std.proofs.lemmas.List.Sorted.{IsPartitionPoint-from_clause}
use Rattle.line.specs.declared.run.Run.{Run}
use Rattle.line.proofs.Sought.{later, later_length, line_parted, line_ends}
use Rattle.line.proofs.search.line_of.Goals as goal

pub returns : goal.returns
returns g c blank f n first listed =
    let pt = g.P.Point in
    let rows = c.args.rows.now in
    let start = c.first-first.result in
    let inside = g.met.P.Point.inside start in
    let more = c.partition_point-more.result in
    let bound = c.partition_point-more.ensures.bound in
    let long = later_length rows in
    let test : Run _ _ → Bool = λ r. not (g.P.PartialEq.eq r.high start) in
    let tells : (r : Run _ _) → Decides (test r) (pt.place r.high ≡ 0 → ⊥) =
    λ r. Decides-not _ (Decides-at _ _ (g.met.P.Point.equal_by_place r.high start ∙ ap (λ (k : ℕ). pt.place r.high == k) c.first-first.ensures) (Decides-eqb (pt.place r.high) 0)) in
    let parted = line_parted pt.place pt.size (omega arith) blank first f n rows listed test tells in
    let point = IsPartitionPoint-from_clause test (later rows) _ c.partition_point-more.ensures.partitioned parted (λ a r q k. search rules) in
    ap (λ (m : ℕ). take m rows) (line_ends pt.place pt.size (omega arith) blank first f n rows listed test tells more blank (omega arith) point)
