-- In the loop the quotients from the coefficient i on are in place, and unit is the inverse of the product before it.
use Rattle.quotients.proofs.Loops.{Divided}
use Rattle.quotients.proofs.quotients.Given as goal

abbrev pub invariant-loop-i : goal.invariant-loop-i
invariant-loop-i l = Divided l.s l.p l.d l.unit l.i l.r
