-- Each refusal rules every number out, and what is read is written so.
use Rattle.std.proofs.Common.{◌≡◌, ℕ, ◌<◌, ◌≤◌, List, length, get_or, take, decimal, ap, ◌∙◌, subst, arith, rules}
use Rattle.std.specs.Str.Parse.{digits_value, AllDigits}
use Rattle.std.proofs.lemmas.Int.Digits.{digits_value_more, digits_more}
use Rattle.std.proofs.lemmas.Str.{digit_value_digit}
use Rattle.std.proofs.lemmas.List.{length-take-le, take_all, take_rest, length-drop}
use Rattle.text.proofs.Decimals as decimals
use Rattle.text.proofs.numbers.read_number.Goals as goal
use Rattle.text.proofs.numbers.read_number.Goals.{else-first-eq48-via-then-first-eq48+else-rest-gt0, else-first-eq48-via-else-first-eq48}

pub returns-in_default : goal.returns-in_default
returns-in_default c n h e = let l = decimals.lengths c.args.bytes.now n (search rules) e in search rules

pub returns-then-bytes-gt10 : goal.returns-then-bytes-gt10
returns-then-bytes-gt10 c n h e = let l = decimals.lengths c.args.bytes.now n (search rules) e in omega arith

pub returns-then-rest-gt0 : goal.returns-then-rest-gt0
returns-then-rest-gt0 c n h e =
    let bs = c.args.bytes.now in
    let r = ap (λ (xs : List ℕ). length xs) (take_rest bs 1) ∙ length-drop 1 bs in
    decimals.leads bs (omega (arith, c.if-rest-gt0.true)) c.if-first-eq48.true n (search rules) e

pub returns-then-byte-lt48 : goal.returns-then-byte-lt48
returns-then-byte-lt48 c n h e = let d = decimals.digit c.args.bytes.now c.loop-byte.byte-index (search rules) n (search rules) e in omega arith

pub returns-then-byte-gt57 : goal.returns-then-byte-gt57
returns-then-byte-gt57 c n h e = let d = decimals.digit c.args.bytes.now c.loop-byte.byte-index (search rules) n (search rules) e in omega arith

pub overflow_mul-number : goal.overflow_mul-number
overflow_mul-number c =
    let l : length (take c.loop-byte.byte-index c.args.bytes.now) ≤ 9 = search (rules, length-take-le) in
    let s = decimals.small (take c.loop-byte.byte-index c.args.bytes.now) c.loop-byte.invariant.1 l in search rules

pub overflow_add-number : goal.overflow_add-number
overflow_add-number c =
    let l : length (take c.loop-byte.byte-index c.args.bytes.now) ≤ 9 = search (rules, length-take-le) in
    let s = decimals.small (take c.loop-byte.byte-index c.args.bytes.now) c.loop-byte.invariant.1 l in search rules

pub loop-byte-preserved : goal.loop-byte-preserved
loop-byte-preserved c =
    let lt : c.loop-byte.byte-index < length c.args.bytes.now = search rules in
    let d = digit_value_digit (get_or c.args.bytes.now c.loop-byte.byte-index 0) (omega arith, omega arith) in
    let v = digits_value_more 10 c.args.bytes.now c.loop-byte.byte-index lt in
    (omega arith, digits_more 10 c.args.bytes.now c.loop-byte.byte-index lt c.loop-byte.invariant.1 (omega arith))

pub returns-then-number-top : goal.returns-then-number-top
returns-then-number-top c n h e =
    let a = take_all c.loop-byte.byte-index c.args.bytes.now (search rules) in
    let w = decimals.worth c.args.bytes.now n (search rules) e in
    let v : c.loop-byte.number ≡ digits_value 10 c.args.bytes.now = cc in omega arith

pub returns : goal.returns
returns c =
    let bs = c.args.bytes.now in
    let a = take_all c.loop-byte.byte-index bs (search rules) in
    let v : c.loop-byte.number ≡ digits_value 10 bs = cc in
    let some : 0 < length bs = search rules in
    let d : AllDigits 10 bs = subst (λ (xs : List ℕ). AllDigits 10 xs) a c.loop-byte.invariant.1 in
    let r = ap (λ (xs : List ℕ). length xs) (take_rest bs 1) ∙ length-drop 1 bs in
    let lead : get_or bs 0 0 ≡ 48 → length bs ≡ 1
    = elim c.else-first-eq48.branch [ else-first-eq48-via-then-first-eq48+else-rest-gt0 w ↦ λ z. omega (arith, w.if-rest-gt0.false) | else-first-eq48-via-else-first-eq48 w ↦ λ z. absurd (w.if-first-eq48.false z) ] in
    (omega arith, ap decimal v ∙ decimals.written bs d some lead (search rules))
