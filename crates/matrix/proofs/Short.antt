-- How long a fault line is.
use Rattle.std.proofs.Common.{◌≡◌, ℕ, ◌+◌, ◌^◌, ◌<◌, ◌≤◌, List, [], ◌∷◌, ◌++◌, length, codes, decimal, arith}
use Rattle.std.proofs.lemmas.Fmt.{length-decimal-le}
use Rattle.std.proofs.lemmas.List.{length-append}
use Rattle.refusal.specs.declared.fault.Fault.{Fault}
use Rattle.refusal.specs.declared.refusal.Refusal.{Refusal}
use Rattle.refusal.specs.declared.refusal.Refusal.TheVariants.{WrongSize, Shut, TooManyRules, IdNotFree, NoSuchRule, PositionTooHigh, WrongNetwork, PortsNotAllowed, SheetTooLong, RangeReversed, RangeTaken, PlanFull, NothingElsewhere, PacketTooShort, WrongHeader, LaterFragment, WrongRow, FieldMalformed, NameNotDeclared, TooManyNames, RulesHeld, TextTooLong, BufferTooShort}
use Rattle.refusal.specs.Numbers.{number, layer}
use Rattle.matrix.specs.declared.fault_line.TextKind.{TextKind}
use Rattle.matrix.specs.declared.fault_line.TextKind.TheVariants.{Plan, Rules}
use Rattle.matrix.specs.Lines.{word_of, fault_line}

pub word_short : (kind : TextKind) → length (word_of kind) ≤ 5
word_short Plan = omega arith
word_short Rules = omega arith

-- a number of 64 bits has at most 20 digits
pub digits_few : (n : ℕ) → n < 2 ^ 64 → length (decimal n) ≤ 20
digits_few n h = length-decimal-le 20 n (omega arith) (omega arith) h

numbers_low : (c : Refusal) → (number c < 2 ^ 64) × (layer c < 2 ^ 64)
numbers_low WrongSize = (omega arith, omega arith)
numbers_low Shut = (omega arith, omega arith)
numbers_low TooManyRules = (omega arith, omega arith)
numbers_low IdNotFree = (omega arith, omega arith)
numbers_low NoSuchRule = (omega arith, omega arith)
numbers_low PositionTooHigh = (omega arith, omega arith)
numbers_low WrongNetwork = (omega arith, omega arith)
numbers_low PortsNotAllowed = (omega arith, omega arith)
numbers_low SheetTooLong = (omega arith, omega arith)
numbers_low RangeReversed = (omega arith, omega arith)
numbers_low RangeTaken = (omega arith, omega arith)
numbers_low PlanFull = (omega arith, omega arith)
numbers_low NothingElsewhere = (omega arith, omega arith)
numbers_low PacketTooShort = (omega arith, omega arith)
numbers_low WrongHeader = (omega arith, omega arith)
numbers_low LaterFragment = (omega arith, omega arith)
numbers_low WrongRow = (omega arith, omega arith)
numbers_low FieldMalformed = (omega arith, omega arith)
numbers_low NameNotDeclared = (omega arith, omega arith)
numbers_low TooManyNames = (omega arith, omega arith)
numbers_low RulesHeld = (omega arith, omega arith)
numbers_low TextTooLong = (omega arith, omega arith)
numbers_low BufferTooShort = (omega arith, omega arith)

pub seven_length : (x1 x2 x3 x4 x5 x6 x7 : List ℕ)
    → length (x1 ++ (x2 ++ (x3 ++ (x4 ++ (x5 ++ (x6 ++ x7)))))) ≡ length x1 + (length x2 + (length x3 + (length x4 + (length x5 + (length x6 + length x7)))))
seven_length x1 x2 x3 x4 x5 x6 x7 = simp length-append (omega arith)

-- a fault line has at most 96 bytes
pub line_short : (kind : TextKind) (f : Fault) → f.line < 2 ^ 64 → f.field < 2 ^ 64 → length (fault_line kind f) ≤ 96
unfolding fault_line
line_short kind f line field =
    let low = numbers_low f.cause in
    let word = word_short kind in
    let a = digits_few (layer f.cause) low.1 in
    let b = digits_few (number f.cause) low.0 in
    let c = digits_few f.line line in
    let d = digits_few f.field field in
    let all = seven_length (codes "fault,") (word_of kind) (44 ∷ decimal (layer f.cause)) (44 ∷ decimal (number f.cause)) (44 ∷ decimal f.line) (44 ∷ decimal f.field) (10 ∷ []) in
    omega arith
