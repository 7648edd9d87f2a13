-- `Modulus::add_product` meets its contract: one term more.
use native.Mathlib.Omega.{arith}
use Rattle.barrett.proofs.Sums.{product-most, added}
use Rattle.barrett.proofs.Modulus.add_product.Goals as goal

pub overflow_mul-result : goal.overflow_mul-result
overflow_mul-result c = omega (arith, product-most _ _ _ c.requires.small c.requires.below_1 c.requires.below_2)

pub overflow_add-result : goal.overflow_add-result
overflow_add-result c = omega (arith, product-most _ _ _ c.requires.small c.requires.below_1 c.requires.below_2, c.requires.room)

pub returns : goal.returns
returns c = added _ _ _ _ c.requires.small c.requires.below_1 c.requires.below_2
