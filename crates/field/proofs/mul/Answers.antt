-- `field::mul` meets its contract: the remainder has the residue of the product.
use native.Mathlib.Omega.{arith}
use Rattle.field.proofs.Products.{product}
use Rattle.field.proofs.mul.Goals as goal

pub returns : goal.returns
returns c = product _ _ _ (omega arith)
