-- `printing::push_sum` meets its contract: the word, the kind, the numbers and the end of the line.
use native.Mathlib.Omega.{arith}
use Rattle.text.proofs.Put.{put_then}
use Rattle.report.specs.Report.{sum_line}
use Rattle.printing.proofs.push_sum.Goals as goal

pub returns : goal.returns
unfolding sum_line
returns c =
    let named = put_then c.push_bytes.ensures c.push_number.ensures.put in
    let all = put_then (put_then named c.push_numbers.ensures.put) c.push_byte.ensures in
    rw (← c.read_u16.ensures.is) (record { put = all; within = omega arith })
