use Rattle.std.proofs.Common.{arith}
use Rattle.std.proofs.Math.Seq.{take-set-lt}
use Rattle.std.proofs.lemmas.List.{length-take}
use Rattle.few.proofs.few.Few.set.Goals as goal

pub returns : goal.returns
returns g c =
    let few = c.args.self.now in
    let long = length-take few.count few.rows in
    take-set-lt few.count few.rows c.args.i c.args.x (omega arith)
