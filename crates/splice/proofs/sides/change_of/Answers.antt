use Rattle.std.proofs.Common.{List, ◌∷◌, ◌++◌, take, drop, sym, ap, ◌∙◌, subst}
use Rattle.std.proofs.lemmas.List.{append_assoc}
use Rattle.line.specs.declared.run.Run.{Run}
use Rattle.splice.specs.Changes.{listed}
use Rattle.line.specs.Line.{Line, over}
use Rattle.splice.proofs.Spliced.{spliced}
use Rattle.splice.proofs.sides.change_of.Goals as goal

pub returns-clause-line : goal.returns-clause-line
returns-clause-line g c = λ f spot.
    let place = g.P.Point.place in
    let s = c.side_before-before.result in
    let t = c.side_after-after.result in
    let rows = c.args.runs.now in
    let new : Run _ _ = record { low = s.end; high = t.end; label = c.args.new.now.label } in
    let l = spliced place g.P.Point.size f _ (place c.args.new.now.low) (place c.args.new.now.high) c.args.new.now.label s t spot.ordered (g.met.P.Point.inside t.end)
    (c.side_before-before.ensures.led f spot) (c.side_after-after.ensures.follows f spot) in
    let front = take s.cut rows in
    let tail = drop t.cut rows in
    subst (λ (zs : List (Run _ _)). Line place g.P.Point.size (over f (place c.args.new.now.low) (place c.args.new.now.high) c.args.new.now.label) zs)
    (append_assoc front (listed s.rest) (new ∷ (listed t.rest ++ tail)) ∙ ap (λ (zs : List (Run _ _)). front ++ zs) (sym (append_assoc (listed s.rest) (new ∷ listed t.rest) tail)))
    l
