-- `Modulus::less2` meets its contract: both products are taken from x, and the sum is reduced.
use Rattle.barrett.proofs.Sums.{reduced, less-together}
use Rattle.barrett.proofs.Modulus.less2.Goals as goal

pub returns : goal.returns
returns c = reduced c.reduce_half.ensures (less-together _ _ _ _ c.sub_product-s.ensures c.sub_product.ensures)
