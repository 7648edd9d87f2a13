-- `multiplication::shift_y` meets its contract. The loop's invariant: what it ensures holds for the places below n.
use Rattle.multiplication.specs.Contract.{Shifted}
use Rattle.multiplication.proofs.shift_y.Given as goal

abbrev pub invariant-loop-n : goal.invariant-loop-n
invariant-loop-n l = Shifted l.v l.n l.out
