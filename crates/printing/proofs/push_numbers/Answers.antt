-- `printing::push_numbers` meets its contract: one number more is put in each turn.
use native.Mathlib.Omega.{arith}
use Rattle.text.proofs.Put.{put_nothing, put_then}
use Rattle.layout.specs.Layout.{numbers}
use Rattle.report.specs.Report.{spaced}
use Rattle.printing.proofs.Lines.{spaced-more}
use Rattle.printing.proofs.push_numbers.Goals as goal

pub loop-i-init : goal.loop-i-init
unfolding spaced numbers
loop-i-init c = record { put = put_nothing c.args.text.now; within = omega arith }

pub loop-i-preserved : goal.loop-i-preserved
loop-i-preserved c =
    let l = c.loop-i in
    let all = put_then l.invariant.put c.push_spaced.ensures.put in
    rw (spaced-more c.args.w.now l.i _ c.read_u32.ensures.is) (record { put = all; within = omega arith })
