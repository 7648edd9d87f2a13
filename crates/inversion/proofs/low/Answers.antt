-- `inversion::low` meets its contract: the remainder has the residue of the product.
use Rattle.std.proofs.Common.{arith}
use Rattle.field.proofs.Products.{product}
use Rattle.inversion.proofs.Negative.{low_fits}
use Rattle.inversion.proofs.low.Goals as goal

pub overflow_mul-result : goal.overflow_mul-result
overflow_mul-result c = low_fits _ _ c.requires

pub returns : goal.returns
returns c = product _ _ _ (omega arith)
