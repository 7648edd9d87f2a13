-- In the loop the denominators before the coefficient i are in place.
use Rattle.quotients.proofs.Loops.{Read}
use Rattle.quotients.proofs.residues.Given as goal

abbrev pub invariant-loop-i : goal.invariant-loop-i
invariant-loop-i l = Read l.s l.p l.i l.r
