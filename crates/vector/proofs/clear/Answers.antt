-- `vector::clear` meets its contract: the store after axpy is what axpy would do at d, by `cleared` of proofs/Lead.
use Rattle.vector.proofs.Lead.{cleared}
use Rattle.vector.proofs.clear.Goals as goal

pub neg-c-requires : goal.neg-c-requires
neg-c-requires c = record { below = c.requires.v_vec.below _ }

pub returns : goal.returns
returns c = cleared c.requires c.neg-c.ensures c.axpy.ensures
