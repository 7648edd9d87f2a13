-- `terms::times` meets its contract. The loop's invariant is TimesPart of proofs/Product.
use Rattle.terms.proofs.Product.{TimesPart}
use Rattle.terms.proofs.times.Given as goal

abbrev pub invariant-loop-n : goal.invariant-loop-n
invariant-loop-n l = TimesPart l.p l.b l.n l.ys l.top l.out
