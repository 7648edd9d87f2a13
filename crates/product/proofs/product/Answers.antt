-- `product::product` meets its contract. The loop's invariant is Multiplying of proofs/Products.
use native.Mathlib.Omega.{arith}
use Rattle.product.proofs.Products.{multiply_start, multiples_asked, products_asked, multiply_more, multiply_end}
use Rattle.product.proofs.product.Goals as goal

pub loop-j-init : goal.loop-j-init
loop-j-init c = rw (c.empty-t.ensures.rows, c.empty-t.ensures.degrees) (multiply_start c.requires)

pub overflow_add-top : goal.overflow_add-top
overflow_add-top c = omega (arith, c.requires.small₂ c.loop-j.j c.loop-j-test.true)

pub y_multiples-ys-requires : goal.y_multiples-ys-requires
y_multiples-ys-requires c = multiples_asked c.requires c.loop-j-test.true

pub insert_products-requires : goal.insert_products-requires
insert_products-requires c =
    products_asked c.requires
    c.loop-j-test.true c.loop-j.invariant
    c.y_multiples-ys.ensures

pub loop-j-preserved : goal.loop-j-preserved
loop-j-preserved c =
    multiply_more c.requires
    c.loop-j-test.true
    c.loop-j.invariant c.y_multiples-ys.ensures
    c.insert_products.ensures

pub returns : goal.returns
returns c = multiply_end c.requires c.loop-j.invariant (omega arith)
