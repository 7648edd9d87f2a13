-- `field::mul_sub` meets its contract: a·(p − b) has the residue of −a·b.
use native.Mathlib.Omega.{arith}
use Rattle.field.proofs.Products.{product-difference}
use Rattle.field.proofs.mul_sub.Goals as goal

pub returns : goal.returns
returns c = product-difference _ _ _ _ (omega arith) (omega arith)
