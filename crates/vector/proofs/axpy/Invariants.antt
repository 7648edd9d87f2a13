-- `vector::axpy` meets its contract. The loop's invariant: what it ensures holds for the numbers below i.
use Rattle.vector.specs.Contract.{Added}
use Rattle.vector.proofs.axpy.Given as goal

abbrev pub invariant-loop-i : goal.invariant-loop-i
invariant-loop-i l = Added l.p l.initial.r l.c l.b l.s l.i l.r
