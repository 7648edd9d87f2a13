-- `span::closed` meets its contract. The loop's invariant is Closing of proofs/Reduction.
use Rattle.span.proofs.Reduction.{Closing}
use Rattle.span.proofs.closed.Given as goal

abbrev pub invariant-loop-j : goal.invariant-loop-j
invariant-loop-j l = Closing l.p l.cube l.t.rows l.t.degrees l.j
