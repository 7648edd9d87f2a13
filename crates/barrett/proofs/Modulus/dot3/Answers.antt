-- `Modulus::dot3` meets its contract: the sum of the three products is reduced.
use Rattle.barrett.proofs.Sums.{reduced, more-after}
use Rattle.barrett.proofs.Modulus.dot3.Goals as goal

pub returns : goal.returns
returns c =
    reduced c.reduce.ensures
    (more-after _ _ (more-after _ _ c.product-s.ensures c.add_product-t.ensures) c.add_product.ensures)
