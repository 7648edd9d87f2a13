-- `product::product` meets its contract. The loop's invariant is Multiplying of proofs/Products.
use Rattle.product.proofs.Products.{Multiplying}
use Rattle.product.proofs.product.Given as goal

abbrev pub invariant-loop-j : goal.invariant-loop-j
invariant-loop-j l = Multiplying l.p l.cube l.a.rows l.b.rows l.t.rows l.t.degrees l.j
