-- `Modulus::cross` meets its contract: the difference of both products is reduced.
use Rattle.barrett.proofs.Sums.{reduced, less-after}
use Rattle.barrett.proofs.Modulus.cross.Goals as goal

pub returns : goal.returns
returns c = reduced c.reduce_half.ensures (less-after _ _ c.product-s.ensures c.sub_product.ensures)
