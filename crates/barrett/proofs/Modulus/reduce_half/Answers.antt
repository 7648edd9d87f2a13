-- `Modulus::reduce_half` meets its contract: the quotient is that of x by p.
use native.Mathlib.Omega.{arith}
use Rattle.barrett.proofs.Quotient.{half-below, half-rest}
use Rattle.barrett.proofs.Modulus.reduce_half.Goals as goal

pub overflow_mul-result : goal.overflow_mul-result
overflow_mul-result c = omega (arith, half-below c.args.self.divides _ _ c.requires c.high.ensures)

pub overflow_sub-result : goal.overflow_sub-result
overflow_sub-result c = half-below c.args.self.divides _ _ c.requires c.high.ensures

pub overflow_cast-result : goal.overflow_cast-result
overflow_cast-result c = omega (arith, (half-rest c.args.self.divides _ _ c.requires c.high.ensures).below)

pub returns : goal.returns
returns c = half-rest c.args.self.divides _ _ c.requires c.high.ensures
