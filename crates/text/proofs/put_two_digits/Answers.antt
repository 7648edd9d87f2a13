-- `text::put_two_digits` meets its contract: a digit and then another.
use Rattle.text.specs.Decimal.{two_digits}
use Rattle.text.proofs.Put.{put_at_then}
use native.Mathlib.Omega.{arith}
use Rattle.text.proofs.put_two_digits.Goals as goal

pub returns : goal.returns
unfolding two_digits
returns c =
    put_at_then (omega arith) c.put_digit-next.ensures c.put_digit.ensures
