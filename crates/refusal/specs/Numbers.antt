-- The number of each cause, its layer, and which causes have a line and a field.
use Rattle.std.specs.Prelude.{List, [], ◌∷◌, Bool, true, false, cond, not, ℕ, ◌==◌}
use Rattle.refusal.specs.declared.layer.Layer.{Layer}
use Rattle.refusal.specs.declared.layer.Layer.TheVariants.{Field, Row, Whole}
use Rattle.refusal.specs.declared.refusal.Refusal.{Refusal}
use Rattle.refusal.specs.declared.refusal.Refusal.TheVariants.{WrongSize, Shut, TooManyRules, IdNotFree, NoSuchRule, PositionTooHigh, WrongNetwork, PortsNotAllowed, SheetTooLong, RangeReversed, RangeTaken, PlanFull, NothingElsewhere, PacketTooShort, WrongHeader, LaterFragment, WrongRow, FieldMalformed, NameNotDeclared, TooManyNames, RulesHeld, TextTooLong, BufferTooShort}

-- the number of a cause
abbrev pub number : Refusal → ℕ
number WrongSize = 1
number Shut = 2
number TooManyRules = 3
number IdNotFree = 4
number NoSuchRule = 5
number PositionTooHigh = 6
number WrongNetwork = 7
number PortsNotAllowed = 8
number SheetTooLong = 9
number RangeReversed = 10
number RangeTaken = 11
number PlanFull = 12
number NothingElsewhere = 13
number PacketTooShort = 14
number WrongHeader = 15
number LaterFragment = 16
number WrongRow = 17
number FieldMalformed = 18
number NameNotDeclared = 19
number TooManyNames = 20
number RulesHeld = 21
number TextTooLong = 22
number BufferTooShort = 23

-- whether n is one of these numbers
abbrev pub among : ℕ → List ℕ → Bool
among n [] = false
among n (k ∷ ks) = cond (n == k) true (among n ks)

-- what a cause is about: 1 a field, 2 a row, 3 the plan or the ruleset
abbrev pub layer : Refusal → ℕ
layer c = cond (among (number c) (18 ∷ 19 ∷ [])) 1 (cond (among (number c) (8 ∷ 10 ∷ 17 ∷ [])) 2 3)

-- the number of a layer
abbrev pub layer_number : Layer → ℕ
layer_number Field = 1
layer_number Row = 2
layer_number Whole = 3

-- these causes have no line
abbrev pub has_line : Refusal → Bool
has_line c = not (among (number c) (1 ∷ 2 ∷ 7 ∷ 9 ∷ 21 ∷ 22 ∷ []))

-- a field stands only in the layer of fields
abbrev pub has_field : Refusal → Bool
has_field c = layer c == 1
