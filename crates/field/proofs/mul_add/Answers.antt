-- `field::mul_add` meets its contract: the remainder has the residue of a·b + c.
use native.Mathlib.Omega.{arith}
use Rattle.field.proofs.Products.{product-sum}
use Rattle.field.proofs.mul_add.Goals as goal

pub returns : goal.returns
returns c = product-sum _ _ _ _ (omega arith)
