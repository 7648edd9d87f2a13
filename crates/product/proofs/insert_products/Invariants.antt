-- `product::insert_products` meets its contract. The loop's invariant is Putting of proofs/Products.
use Rattle.product.proofs.Products.{Putting}
use Rattle.product.proofs.insert_products.Given as goal

abbrev pub invariant-loop-i : goal.invariant-loop-i
invariant-loop-i l = Putting l.p l.a.rows l.ys l.initial.t.rows l.t.rows l.t.degrees l.i
