use Rattle.std.proofs.Common.{[], ◌∷◌, refl, ◌∙◌, arith}
use Rattle.std.proofs.lemmas.List.{length-append}
use Rattle.splice.specs.Changes.{listed}
use Rattle.splice.proofs.Replaced.{replaced, rest_same}
use Rattle.splice.proofs.change.Change.apply.Goals as goal

pub returns : goal.returns
returns g c =
    let s = c.args.self.now in
    let xs = listed s.before in
    let zs = listed s.after in
    let len = length-append xs (s.middle ∷ zs) in
    let n = c.amount.ensures.is in
    let a = c.requires.apt.ordered in
    let b = c.requires.apt.within in
    let m = c.move_tail.ensures in
    let u = c.put-first.ensures in
    let v = c.put-second.ensures in
    let w = c.put.ensures in
    record {
      size = omega arith;
      list = replaced c.args.rows.now c.move_tail.new.rows c.args.count s.from s.to _ _ c.move_tail.auto.rows
          (omega arith) b c.requires.fits (omega arith) refl (omega arith)
          m.kept m.moved
          c.put-first.new.rows c.put-second.new.rows c.put.new.rows xs (s.middle ∷ []) zs _ _ _
          u.next u.front u.rest v.next v.front v.rest w.next w.front w.rest (omega arith);
      rest = λ n a b.
          w.rest n (omega arith) ∙ v.rest n (omega arith) ∙ u.rest n (omega arith)
          ∙ rest_same c.args.rows.now c.move_tail.new.rows n c.move_tail.auto.rows (λ k z h. m.rest k z (omega arith));
    }
