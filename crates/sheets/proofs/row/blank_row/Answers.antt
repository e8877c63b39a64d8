use Rattle.std.proofs.Common.{◌≡◌, arith, ◌∙◌}
use Rattle.sheets.specs.Strips.{first_service, blank_row}
use Rattle.sheets.proofs.Same.{service_same, row_same}
use Rattle.sheets.proofs.row.blank_row.Goals as goal

pub returns : goal.returns
returns c =
    let r = c.blank.result in
    let low : r.low ≡ first_service = service_same r.low first_service (omega (arith, c.blank.ensures.low)) (omega (arith, c.blank.ensures.low)) in
    row_same r blank_row low (c.blank.ensures.high ∙ low) c.blank.ensures.label
