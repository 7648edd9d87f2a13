-- `span::reduce` meets its contract. The loop's invariant is Reducing of proofs/Reduction.
use Rattle.span.proofs.Reduction.{Reducing}
use Rattle.span.proofs.reduce.Given as goal

abbrev pub invariant-loop-n : goal.invariant-loop-n
invariant-loop-n l = Reducing l.p l.t.rows l.t.degrees l.initial.v l.v l.n
