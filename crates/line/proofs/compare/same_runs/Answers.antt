use Rattle.line.proofs.Compared.{same_outlines}
use Rattle.std.proofs.lemmas.Bool.Decides.{Decides-at}
use Rattle.line.proofs.compare.same_runs.Goals as goal

pub returns : goal.returns
returns g c =
    let told = same_outlines g.P.Point.place g.P.PartialEq.eq g.met.P.Point.equal_by_place g.L.PartialEq.eq g.met.L.Label.tells c.args.runs.now c.args.others.now in
    Decides-at _ _ c.eq.ensures told
