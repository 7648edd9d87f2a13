-- `product::insert_products` meets its contract. The loop's invariant is Putting of proofs/Products.
use native.Mathlib.Omega.{arith}
use Rattle.product.proofs.Products.{put-start, put_degree, times_asked, put_asked, put-more, put-end}
use Rattle.product.proofs.insert_products.Goals as goal

pub loop-i-init : goal.loop-i-init
loop-i-init c = put-start c.requires

pub overflow_add-e : goal.overflow_add-e
overflow_add-e c = omega (arith, put_degree c.requires c.loop-i-test.true)

pub times-v-requires : goal.times-v-requires
times-v-requires c = times_asked c.requires c.loop-i-test.true

pub overflow_add-e-in-loop-i : goal.overflow_add-e-in-loop-i
overflow_add-e-in-loop-i c =
    omega (
      arith,
      put_degree c.requires c.loop-i-test.true,
      c.requires.low,
    )

pub insert-requires : goal.insert-requires
insert-requires c =
    put_asked c.requires
    c.loop-i-test.true c.loop-i.invariant
    c.times-v.ensures

pub loop-i-preserved : goal.loop-i-preserved
loop-i-preserved c =
    put-more c.requires
    c.loop-i-test.true
    c.loop-i.invariant c.times-v.ensures
    c.insert.ensures

pub returns : goal.returns
returns c = put-end c.loop-i.invariant (omega arith)
