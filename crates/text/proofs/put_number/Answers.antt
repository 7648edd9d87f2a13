-- `text::put_number` meets its contract: a number of 32 bits has ten digits at most.
use native.Mathlib.Omega.{arith}
use Rattle.text.proofs.Decimal.{ten-digits}
use Rattle.text.proofs.put_number.Goals as goal

pub put_digits-requires : goal.put_digits-requires
put_digits-requires c = omega (arith, ten-digits c.args.n (omega (arith, c.ranges.n)))

pub returns : goal.returns
returns c =
    record {
      put = c.put_digits.ensures;
      within = omega (arith, c.put_digits.ensures.next, ten-digits c.args.n (omega (arith, c.ranges.n)));
    }
