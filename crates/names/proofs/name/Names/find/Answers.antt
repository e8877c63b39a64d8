use Rattle.std.proofs.Common.{◌+◌, ℕ, List, Option, ap, ◌∙◌, sym}
use Rattle.std.specs.Option.{option_map}
use Rattle.names.specs.Names.{declared}
use Rattle.names.proofs.Numbers.{declared_place}
use Rattle.names.proofs.name.Names.find.Goals as goal

pub returns-in_err-at : goal.returns-in_err-at
returns-in_err-at c =
    let d = declared_place c.args.text.now c.as_slice.result.now in
    c.from_residual.ensures ∙ ap (λ (o : Option ℕ). option_map (λ i. i + 1) o) (sym c.in_err-at.was ∙ c.place.ensures) ∙ sym d ∙ ap (λ (ns : List (List ℕ)). declared ns c.args.text.now) c.as_slice.ensures

pub returns : goal.returns
returns c =
    let d = declared_place c.args.text.now c.as_slice.result.now in
    ap (λ (o : Option ℕ). option_map (λ i. i + 1) o) (sym c.in_ok-at.was ∙ c.place.ensures) ∙ sym d ∙ ap (λ (ns : List (List ℕ)). declared ns c.args.text.now) c.as_slice.ensures
