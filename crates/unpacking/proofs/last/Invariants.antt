-- `unpacking::last` meets its contract. The loop's invariant: n is the number of the bytes from place i on.
use Rattle.unpacking.proofs.Steps.{Summed}
use Rattle.unpacking.proofs.last.Given as goal

abbrev pub invariant-loop-i : goal.invariant-loop-i
invariant-loop-i l = Summed l.s l.at l.n l.i
