use Rattle.std.proofs.Common.{◌∙◌, ap, replicate, ℕ, rules}
use Rattle.line.proofs.Filling.{filled_with}
use Rattle.line.proofs.drawing.fill.Goals as goal

pub returns : goal.returns
returns g c =
    let ran = c.fill_with.ensures.ran in
    filled_with _ c.args.value _ (λ x q k. search rules) _ ran.0 ran.1 ∙ ap (λ (n : ℕ). replicate n c.args.value) c.fill_with.ensures.len
