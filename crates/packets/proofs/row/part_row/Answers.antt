-- What follows the kind and its comma has one first comma.
use Rattle.std.proofs.Common.{◌≡◌, ℕ, List, drop, ap, ◌∙◌, subst}
use Rattle.std.proofs.lemmas.List.{take_rest}
use Rattle.text.specs.Parts.{Lacks}
use Rattle.text.proofs.Cutting.{no_cut}
use Rattle.packets.proofs.row.part_row.Goals as goal
use Rattle.packets.proofs.row.part_row.Goals.{in-52, in-54}

pub returns-in_err-parts : goal.returns-in_err-parts
returns-in_err-parts c =
    let row = c.args.row.now in
    let rest : c.match-row.kind.1.now ≡ drop 2 row = elim c.match-row.branch [ in-52 w ↦ ap (λ p. p.1.now) w.kind-is ∙ take_rest row 2 | in-54 w ↦ ap (λ p. p.1.now) w.kind-is ∙ take_rest row 2 ] in
    rw c.from_residual.ensures
    (λ kind digits told l e. no_cut 44 (drop 2 row) digits told (subst (λ (q : List ℕ). Lacks 44 q) rest c.in_err-parts.ensures) (ap (λ (q : List ℕ). drop 2 q) e))
