-- What a cursor has yet to hand out, and what it does as it hands out the next.
use Rattle.std.specs.Prelude.{◌≡◌, ℕ, ◌+◌, ◌-◌, ◌<◌, cond, List, [], ◌∷◌, length, take, drop, nat_le, Option, MatchOption}
use Rattle.text.specs.Parts.{rows, fields}
use Rattle.text.specs.declared.row.Row.{Row}
use Rattle.text.specs.declared.rows.Rows.{Rows}
use Rattle.text.specs.declared.field.Field.{Field}
use Rattle.text.specs.declared.fields.Fields.{Fields}

-- the rows that the cursor has yet to hand out
unfoldable pub rows_left : Rows → List (List ℕ)
rows_left r = rows (drop r.parts.at r.parts.text.now)

-- the bytes of these rows and of their ends, which a loop over the rows counts down
unfoldable pub bytes_left : Rows → ℕ
bytes_left r = length r.parts.text.now - r.parts.at

-- the cursor goes from `before` to `after` as it hands out the row
pub record NextRow (before : Rows) (row : Row) (after : Rows) : Type 0 where
  pub left : rows_left before ≡ row.bytes.now ∷ rows_left after
  pub start : row.start ≡ before.parts.at
  pub part : row.bytes.now ≡ take (length row.bytes.now) (drop row.start before.parts.text.now)
  pub line : row.line ≡ before.parts.count + 1
  pub counted : after.parts.count ≡ row.line
  pub text : after.parts.text ≡ before.parts.text
  pub next : after.parts.at ≡ row.start + length row.bytes.now + 1
  pub less : bytes_left after < bytes_left before

-- the cursor hands out the next row, or none is left, and it stays as it was
abbrev pub RowStep : Rows → Option Row → Rows → Type 0
RowStep before given after = MatchOption given ((rows_left before ≡ []) × (after ≡ before)) (λ row. NextRow before row after)

-- the fields that the cursor has yet to hand out: past the end of its row there are none
unfoldable pub fields_left : Fields → List (List ℕ)
fields_left f = cond (nat_le f.parts.at (length f.parts.text.now)) (fields (drop f.parts.at f.parts.text.now)) []

-- the bytes of these fields and of their ends, which a loop over the fields counts down
unfoldable pub field_bytes_left : Fields → ℕ
field_bytes_left f = length f.parts.text.now + 1 - f.parts.at

-- the cursor goes from `before` to `after` as it hands out the field
pub record NextField (before : Fields) (field : Field) (after : Fields) : Type 0 where
  pub left : fields_left before ≡ field.bytes.now ∷ fields_left after
  pub number : field.number ≡ before.parts.count + 1
  pub counted : after.parts.count ≡ field.number
  pub row : after.parts.text ≡ before.parts.text
  pub less : field_bytes_left after < field_bytes_left before

-- the cursor hands out the next field, or none is left, and it stays as it was
abbrev pub FieldStep : Fields → Option Field → Fields → Type 0
FieldStep before given after = MatchOption given ((fields_left before ≡ []) × (after ≡ before)) (λ field. NextField before field after)
