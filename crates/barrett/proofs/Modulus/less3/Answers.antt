-- `Modulus::less3` meets its contract: three products are taken from x, and the sum is reduced.
use Rattle.barrett.proofs.Sums.{reduced, less-together}
use Rattle.barrett.proofs.Modulus.less3.Goals as goal

pub returns : goal.returns
returns c =
    reduced c.reduce.ensures
    (less-together _ _ _ _ (less-together _ _ _ _ c.sub_product-s.ensures c.sub_product-t.ensures) c.sub_product.ensures)
