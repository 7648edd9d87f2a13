-- `group::product_star` meets its contract: the span of the product triple is the product of the two ideals.
use Rattle.group.proofs.Stars.{product_asked, product-star_asked, product_star_of}
use Rattle.group.proofs.product_star.Goals as goal

pub product-t-requires : goal.product-t-requires
product-t-requires c =
    product_asked c.triple_of-u.ensures c.triple_of-v.ensures c.requires

pub star-requires : goal.star-requires
star-requires c =
    product-star_asked c.triple_of-u.ensures c.triple_of-v.ensures c.product-t.ensures c.requires

pub returns : goal.returns
returns c =
    product_star_of c.triple_of-u.ensures c.triple_of-v.ensures c.product-t.ensures c.star.ensures
