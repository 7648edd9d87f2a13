-- In the loop the products up to that before place i are in place.
use Rattle.quotients.proofs.Loops.{Filled}
use Rattle.quotients.proofs.products.Given as goal

abbrev pub invariant-loop-i : goal.invariant-loop-i
invariant-loop-i l = Filled l.p l.d l.i l.r
