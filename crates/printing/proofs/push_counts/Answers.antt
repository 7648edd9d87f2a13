-- `printing::push_counts` meets its contract: five lines.
use native.Mathlib.Omega.{arith}
use Rattle.text.proofs.Put.{put_then}
use Rattle.report.specs.Report.{count_lines}
use Rattle.printing.proofs.push_counts.Goals as goal

pub returns : goal.returns
unfolding count_lines
returns c =
    let all =
    put_then
    (put_then (put_then (put_then c.push_line.ensures.put c.push_line-2.ensures.put) c.push_line-3.ensures.put) c.push_line-4.ensures.put)
    c.push_line-5.ensures.put in
    record { put = all; within = omega arith }
