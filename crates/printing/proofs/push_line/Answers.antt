-- `printing::push_line` meets its contract: a name, a number and the end of the line.
use native.Mathlib.Omega.{arith}
use Rattle.text.proofs.Put.{put_then}
use Rattle.report.specs.Report.{count_line}
use Rattle.printing.proofs.push_line.Goals as goal

pub returns : goal.returns
unfolding count_line
returns c =
    let all = put_then (put_then c.push_bytes.ensures c.push_number.ensures.put) c.push_byte.ensures in
    record { put = all; within = omega arith }
