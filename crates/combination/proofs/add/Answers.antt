-- `combination::add` meets its contract: the products of u with the members of the divisor's triple are put in.
use Rattle.combination.proofs.Adding.{multiples_asked, products_asked, added}
use Rattle.combination.proofs.add.Goals as goal

pub y_multiples-ys-requires : goal.y_multiples-ys-requires
y_multiples-ys-requires c = multiples_asked c.requires

pub insert_products-requires : goal.insert_products-requires
insert_products-requires c =
    products_asked c.requires c.triple_of-a.ensures c.y_multiples-ys.ensures

pub returns : goal.returns
returns c =
    added c.requires c.triple_of-a.ensures c.y_multiples-ys.ensures c.insert_products.ensures
