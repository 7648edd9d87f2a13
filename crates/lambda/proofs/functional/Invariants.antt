-- `lambda::functional` meets its contract. The loop's invariant is Partial of proofs/Partial.
use Rattle.lambda.proofs.Partial.{Partial}
use Rattle.lambda.proofs.functional.Given as goal

abbrev pub invariant-loop-s : goal.invariant-loop-s
invariant-loop-s l = Partial l.q l.ys l.s l.lam
