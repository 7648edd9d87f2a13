-- The pairs before `left` are read, and `sum` is their list sum. The measure is how many numbers are left.
use lib.ListN.{length}
use Rattle.points.proofs.Walk.{Walked}
use Rattle.points.proofs.total.Given as goal

abbrev pub invariant-loop-left : goal.invariant-loop-left
invariant-loop-left l = Walked l.g l.points l.left l.sum

abbrev pub decreases-loop-left : goal.decreases-loop-left
decreases-loop-left l = length l.left
