-- `printing::push_spaced` meets its contract: a space and then the number.
use native.Mathlib.Omega.{arith}
use Rattle.text.proofs.Put.{put_then}
use Rattle.printing.proofs.push_spaced.Goals as goal

pub returns : goal.returns
returns c =
    let all = put_then c.push_byte.ensures c.push_number.ensures.put in
    record { put = all; within = omega arith }
