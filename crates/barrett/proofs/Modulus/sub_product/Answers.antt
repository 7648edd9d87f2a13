-- `Modulus::sub_product` meets its contract: p² less the product is one term more.
use native.Mathlib.Omega.{arith}
use Rattle.barrett.proofs.Sums.{product-most, square-most, product-square, taken}
use Rattle.barrett.proofs.Modulus.sub_product.Goals as goal

pub overflow_mul-result : goal.overflow_mul-result
overflow_mul-result c = omega (arith, square-most _ c.requires.small)

pub overflow_mul-result-2 : goal.overflow_mul-result-2
overflow_mul-result-2 c = omega (arith, product-most _ _ _ c.requires.small c.requires.below_1 c.requires.below_2)

pub overflow_sub-result : goal.overflow_sub-result
overflow_sub-result c = omega (arith, product-square _ _ _ c.requires.below_1 c.requires.below_2)

pub overflow_add-result : goal.overflow_add-result
overflow_add-result c = omega (arith, square-most _ c.requires.small, c.requires.room)

pub returns : goal.returns
returns c = taken _ _ _ _ c.requires.small c.requires.below_1 c.requires.below_2
