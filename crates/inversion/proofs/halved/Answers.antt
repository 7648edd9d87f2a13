-- `inversion::halved` meets its contract.
use Rattle.std.proofs.Common.{arith, pow_pos}
use Rattle.field.proofs.Products.{product-fits}
use Rattle.inversion.proofs.Quotient.{half, half-fits}
use Rattle.inversion.proofs.halved.Goals as goal

pub overflow_mul-m : goal.overflow_mul-m
overflow_mul-m c = product-fits _ _ (omega arith) (omega arith)

pub nonzero_rem-m : goal.nonzero_rem-m
nonzero_rem-m c = omega (arith, c.power.ensures, pow_pos c.args.j)

pub overflow_mul-result : goal.overflow_mul-result
overflow_mul-result c = omega (arith, half-fits _ _ _ _ _ c.power.ensures c.requires)

pub overflow_add-result : goal.overflow_add-result
overflow_add-result c = half-fits _ _ _ _ _ c.power.ensures c.requires

pub returns : goal.returns
returns c = half _ _ _ _ _ c.power.ensures c.requires
