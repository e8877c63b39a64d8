-- A cursor's step, from one row or field to the next.
use Rattle.std.proofs.Common.{◌≡◌, ℕ, ◌+◌, ◌-◌, ◌<◌, ◌≤◌, Bool, cond, ltb, leb, List, [], ◌∷◌, length, take, drop, sym, ap, ◌∙◌, arith}
use Rattle.std.proofs.lemmas.List.{length-drop, drop-drop, take_rest, nil_from_length}
use Rattle.std.proofs.lemmas.Bool.Decides.{nat_tests}
use Rattle.text.specs.Parts.{first_part, rows, fields}
use Rattle.text.proofs.Cutting.{first_front, first_short, first_row, first_field, later_fields}

-- what the code cuts from the rest of a text
pub rest_part : (stop : ℕ) (text : List ℕ) (at : ℕ) (bytes : List ℕ) → bytes ≡ first_part stop (take (length text - at) (drop at text)) → bytes ≡ first_part stop (drop at text)
rest_part stop text at bytes e = e ∙ ap (λ (q : List ℕ). first_part stop q) (take_rest text at)

-- it fits in the rest of the text
pub part_short : (stop : ℕ) (text : List ℕ) (at : ℕ) (bytes : List ℕ) → at ≤ length text → bytes ≡ first_part stop (drop at text) → at + length bytes ≤ length text
part_short stop text at bytes h e = omega (arith, ap (λ (q : List ℕ). length q) e, first_short stop (drop at text), length-drop at text)

-- it stands at the front of the rest of the text
pub part_front : (stop : ℕ) (text : List ℕ) (at : ℕ) (bytes : List ℕ) → bytes ≡ first_part stop (drop at text) → bytes ≡ take (length bytes) (drop at text)
part_front stop text at bytes e = e ∙ (first_front stop (drop at text) ∙ ap (λ (q : List ℕ). take (length q) (drop at text)) (sym e))

-- no row is left at the end of a text
pub no_row : (text : List ℕ) (at : ℕ) → length text ≤ at → rows (drop at text) ≡ []
no_row text at h = ap (λ (q : List ℕ). rows q) (nil_from_length (drop at text) (omega (arith, length-drop at text)))

first : (text : List ℕ) → 0 < length text → rows text ≡ first_part 10 text ∷ rows (drop (length (first_part 10 text) + 1) text)
first [] h = absurd (omega arith)
first (b ∷ text) h = first_row 10 b text

-- the row at a place, and the rows after it
pub next_row : (text : List ℕ) (at : ℕ) (bytes : List ℕ) → at < length text → bytes ≡ first_part 10 (drop at text) → rows (drop at text) ≡ bytes ∷ rows (drop (at + length bytes + 1) text)
next_row text at bytes h e =
    let d : List ℕ = drop at text in
    let sum : at + (length bytes + 1) ≡ at + length bytes + 1 = omega arith in
    first d (omega (arith, length-drop at text))
    ∙ (ap (λ (q : List ℕ). q ∷ rows (drop (length q + 1) d)) (sym e)
    ∙ ap (λ (q : List ℕ). bytes ∷ rows q) (drop-drop (length bytes + 1) at text ∙ ap (λ (k : ℕ). drop k text) sum))

-- the fields from a place on: past the end of the row there are none
abbrev pub fields_from : List ℕ → ℕ → List (List ℕ)
fields_from row at = cond (leb at (length row)) (fields (drop at row)) []

pub no_field : (row : List ℕ) (at : ℕ) → length row < at → fields_from row at ≡ []
no_field row at h = grind (arith, nat_tests)

pub some_field : (row : List ℕ) (at : ℕ) → at ≤ length row → fields_from row at ≡ fields (drop at row)
some_field row at h = grind (arith, nat_tests)

same_test : (row : List ℕ) (at n : ℕ) → at ≤ length row → ltb n (length (drop at row)) ≡ leb (at + n + 1) (length row)
same_test row at n h = let l = length-drop at row in grind (arith, nat_tests)

-- the field at a place, and the fields after it
pub next_field : (row : List ℕ) (at : ℕ) (bytes : List ℕ) → at ≤ length row → bytes ≡ first_part 44 (drop at row) → fields_from row at ≡ bytes ∷ fields_from row (at + length bytes + 1)
next_field row at bytes h e =
    let d : List ℕ = drop at row in
    let sum : at + (length bytes + 1) ≡ at + length bytes + 1 = omega arith in
    some_field row at h
    ∙ (first_field 44 d
    ∙ (ap (λ (q : List ℕ). q ∷ later_fields 44 (length q) d) (sym e)
    ∙ (ap (λ (t : Bool). bytes ∷ cond t (fields (drop (length bytes + 1) d)) []) (same_test row at (length bytes) h)
    ∙ ap (λ (q : List ℕ). bytes ∷ cond (leb (at + length bytes + 1) (length row)) (fields q) []) (drop-drop (length bytes + 1) at row ∙ ap (λ (k : ℕ). drop k row) sum))))
