-- The first i numbers are put.
use Prim.Native.Nat.{◌*◌}
use Rattle.text.specs.Put.{Placed}
use Rattle.layout.specs.Layout.{numbers}
use Rattle.report.specs.Report.{spaced}
use Rattle.printing.proofs.push_numbers.Given as goal

abbrev pub invariant-loop-i : goal.invariant-loop-i
invariant-loop-i l = Placed l.initial.text (spaced (numbers l.w 4 l.i)) (11 * l.i) l.text
