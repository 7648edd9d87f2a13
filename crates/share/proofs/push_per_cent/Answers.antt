-- `share::push_per_cent` meets its contract: the whole part, a point and two digits.
use native.Mathlib.Omega.{arith}
use Rattle.text.proofs.Put.{put_then}
use Rattle.report.specs.Report.{per_cent}
use Rattle.text.specs.Decimal.{two_digits}
use Rattle.share.proofs.push_per_cent.Goals as goal

pub returns : goal.returns
unfolding per_cent two_digits
returns c =
    let all = put_then (put_then c.push_number.ensures.put c.push_byte.ensures) c.push_two_digits.ensures in
    record { put = all; within = omega arith }
