-- `Modulus::mul` meets its contract: the product is reduced.
use native.Mathlib.Omega.{arith}
use Rattle.field.proofs.Element.{el-mul}
use Rattle.field.proofs.Products.{product-fits}
use Rattle.barrett.proofs.Sums.{product-most, reduced-one}
use Rattle.barrett.proofs.Modulus.mul.Goals as goal

pub overflow_mul-a : goal.overflow_mul-a
overflow_mul-a c = product-fits _ _ (omega arith) (omega arith)

pub reduce_half-requires : goal.reduce_half-requires
reduce_half-requires c = omega (arith, product-most _ _ _ c.requires.small c.requires.below_1 c.requires.below_2)

pub returns : goal.returns
returns c = reduced-one _ c.reduce_half.ensures (el-mul _ _ _)
