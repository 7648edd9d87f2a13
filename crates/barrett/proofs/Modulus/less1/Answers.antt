-- `Modulus::less1` meets its contract: x and a·(p − b) are reduced.
use native.Mathlib.Omega.{arith}
use Rattle.field.proofs.Products.{product-fits}
use Rattle.barrett.proofs.Sums.{one-fits, other_half, less_one, reduced-one}
use Rattle.barrett.proofs.Modulus.less1.Goals as goal

pub overflow_mul-a : goal.overflow_mul-a
overflow_mul-a c = product-fits _ _ (omega arith) (omega arith)

pub overflow_add-x : goal.overflow_add-x
overflow_add-x c = one-fits _ _ _ (omega arith) (omega arith) (omega arith)

pub reduce_half-requires : goal.reduce_half-requires
reduce_half-requires c = other_half _ _ _ _ c.requires.small c.requires.below_1 c.requires.below_2

pub returns : goal.returns
returns c = reduced-one _ c.reduce_half.ensures (less_one _ _ _ _ (omega arith))
