-- `Modulus::product` meets its contract: a product is a term.
use native.Mathlib.Omega.{arith}
use Rattle.barrett.proofs.Sums.{product-most, product-sum}
use Rattle.barrett.proofs.Modulus.product.Goals as goal

pub overflow_mul-result : goal.overflow_mul-result
overflow_mul-result c = omega (arith, product-most _ _ _ c.requires.small c.requires.below_1 c.requires.below_2)

pub returns : goal.returns
returns c = product-sum _ _ _ c.requires.small c.requires.below_1 c.requires.below_2
