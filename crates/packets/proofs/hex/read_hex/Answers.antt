-- Where a digit cannot be read, no bytes have these digits; else each turn reads one byte more.
use Rattle.std.proofs.Common.{◌≡◌, ℕ, ◌+◌, ◌*◌, ◌/◌, ◌%◌, ◌<◌, ◌≤◌, List, length, get_or, take, sym, ap, ◌∙◌, arith}
use Rattle.std.proofs.ByRecursion.{All-get_or}
use Rattle.std.proofs.lemmas.List.{take_more_set, take_all, length-take-le}
use Rattle.packets.specs.Rows.{hexed}
use Rattle.packets.proofs.Digits.{length_hexed, first_of, second_of, high_at, low_at, byte_more}
use Rattle.packets.proofs.hex.read_hex.Goals as goal

pub returns-in_default : goal.returns-in_default
returns-in_default c bytes all short e = omega (arith, length_hexed bytes, ap length e, c.in_default.len_at_least, c.as_chunks.ensures.back_len)

pub returns-then-pairs-out : goal.returns-then-pairs-out
returns-then-pairs-out c bytes all short e = omega (arith, length_hexed bytes, ap length e, c.if-pairs-out.true, c.as_chunks.ensures.front_len)

pub returns-in_err-read_digit : goal.returns-in_err-read_digit
returns-in_err-read_digit c =
    let i = c.loop-i.i in
    let digits = c.args.digits.now in
    let below : i < length digits / 2 = omega (arith, c.as_chunks.ensures.front_len, c.loop-i-test.true) in
    rw c.from_residual.ensures
    (λ bytes all short e.
    let inside : i < length bytes = omega (arith, length_hexed bytes, ap length e, c.as_chunks.ensures.front_len, c.loop-i-test.true) in
    let byte = All-get_or (λ (b : ℕ). b < 256) bytes i 0 inside all in
    c.in_err-read_digit.ensures (get_or bytes i 0 / 16) (omega arith) (sym (high_at bytes i inside) ∙ (ap (λ (q : List ℕ). get_or q (2 * i) 0) e ∙ sym (first_of c.as_chunks.result.0.now digits (length digits / 2) i _ c.as_chunks.ensures.front below))))

pub returns-in_err-out : goal.returns-in_err-out
returns-in_err-out c =
    let i = c.loop-i.i in
    let digits = c.args.digits.now in
    let below : i < length digits / 2 = omega (arith, c.as_chunks.ensures.front_len, c.loop-i-test.true) in
    rw c.from_residual-in_err-out.ensures
    (λ bytes all short e.
    let inside : i < length bytes = omega (arith, length_hexed bytes, ap length e, c.as_chunks.ensures.front_len, c.loop-i-test.true) in
    c.in_err-out.ensures (get_or bytes i 0 % 16) (omega arith) (sym (low_at bytes i inside) ∙ (ap (λ (q : List ℕ). get_or q (2 * i + 1) 0) e ∙ sym (second_of c.as_chunks.result.0.now digits (length digits / 2) i _ c.as_chunks.ensures.front below))))

pub loop-i-preserved : goal.loop-i-preserved
loop-i-preserved c =
    let i = c.loop-i.i in
    let digits = c.args.digits.now in
    let h = c.in_ok-read_digit.ensures in
    let l = c.in_ok-out.ensures in
    let inside : i < length digits / 2 = omega (arith, c.as_chunks.ensures.front_len, c.loop-i-test.true) in
    ap hexed (take_more_set c.loop-i.out i (c.in_ok-read_digit.field-0 * 16 + c.in_ok-out.field-0) (omega (arith, c.if-pairs-out.false, c.loop-i-test.true, c.loop-i.auto.out)))
    ∙ byte_more (take i c.loop-i.out) digits i c.in_ok-read_digit.field-0 c.in_ok-out.field-0 (omega arith) c.loop-i.invariant h.0 l.0
    (h.1 ∙ first_of c.as_chunks.result.0.now digits (length digits / 2) i _ c.as_chunks.ensures.front inside)
    (l.1 ∙ second_of c.as_chunks.result.0.now digits (length digits / 2) i _ c.as_chunks.ensures.front inside)
