-- A number below 10 is one digit, any other is the rest of its digits and then the last.
use Rattle.std.proofs.Common.{length, ap, arith}
use Rattle.text.proofs.Decimal.{decimal-small, decimal-large, length_large}
use Rattle.text.proofs.Put.{put_at_then}
use Rattle.text.proofs.+put_digits.Goals as goal

pub put_digit-requires-clause-at_in_bounds : goal.put_digit-requires-clause-at_in_bounds
put_digit-requires-clause-at_in_bounds t c = omega (arith, ap length (decimal-small c.args.n c.if-n-lt10.true))

pub returns-then-n-lt10 : goal.returns-then-n-lt10
returns-then-n-lt10 t c = rw (decimal-small c.args.n c.if-n-lt10.true) c.put_digit.ensures

pub put_digits-next-requires : goal.put_digits-next-requires
put_digits-next-requires t c = (omega arith, omega (arith, length_large c.args.n c.if-n-lt10.false))

pub put_digit-requires-2-clause-at_in_bounds : goal.put_digit-requires-2-clause-at_in_bounds
put_digit-requires-2-clause-at_in_bounds t c = omega (arith, length_large c.args.n c.if-n-lt10.false)

pub returns : goal.returns
returns t c =
    rw
    (decimal-large c.args.n c.if-n-lt10.false)
    (put_at_then (omega (arith, length_large c.args.n c.if-n-lt10.false)) c.put_digits-next.ensures c.put_digit-2.ensures)
