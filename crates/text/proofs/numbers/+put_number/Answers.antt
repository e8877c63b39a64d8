-- A digit, or the digits of the tenth part and then the last digit.
use Rattle.std.proofs.Common.{◌+◌, ◌%◌, [], ◌∷◌, sym, subst, arith}
use Rattle.std.proofs.lemmas.Fmt.{decimal_digit, decimal_step}
use Rattle.text.proofs.numbers.+put_number.Goals as goal

pub put_byte-requires : goal.put_byte-requires
put_byte-requires g t c = subst (g.S.Sink.has_room c.args.sink.now) (decimal_digit c.args.n c.if-n-lt10.true) c.requires

pub returns-then-n-lt10 : goal.returns-then-n-lt10
returns-then-n-lt10 g t c = subst (λ text. g.S.Sink.takes c.args.sink.now text c.put_byte.new.self) (sym (decimal_digit c.args.n c.if-n-lt10.true)) c.put_byte.ensures

pub put_number-requires : goal.put_number-requires
put_number-requires g t c κs within =
    let room = subst (g.S.Sink.has_room c.args.sink.now) (decimal_step c.args.n c.if-n-lt10.false c.ranges.n.fits) c.requires in
    (omega (arith, c.if-n-lt10.false, c.decreases), (within, g.met.S.Sink.laws.first ((48 + c.args.n % 10) ∷ []) room))

pub put_byte-requires-2 : goal.put_byte-requires-2
put_byte-requires-2 g t c =
    g.met.S.Sink.laws.second (subst (g.S.Sink.has_room c.args.sink.now) (decimal_step c.args.n c.if-n-lt10.false c.ranges.n.fits) c.requires) c.put_number.ensures

pub returns : goal.returns
returns g t c =
    subst (λ text. g.S.Sink.takes c.args.sink.now text c.put_byte-2.new.self) (sym (decimal_step c.args.n c.if-n-lt10.false c.ranges.n.fits))
    (g.met.S.Sink.laws.both c.put_number.ensures c.put_byte-2.ensures)
