-- `vector::make_monic` meets its contract, by the two laws of proofs/Lead.
use Rattle.vector.proofs.Lead.{already_monic, made_monic}
use Rattle.vector.proofs.make_monic.Goals as goal

pub inverse-c-requires : goal.inverse-c-requires
inverse-c-requires c = record { prime = c.requires.prime; below = c.requires.vec.below _ }

pub returns-then-lead-ne1 : goal.returns-then-lead-ne1
returns-then-lead-ne1 c = made_monic c.requires c.inverse-c.ensures c.scale.ensures

pub returns-else-lead-ne1 : goal.returns-else-lead-ne1
returns-else-lead-ne1 c = already_monic c.requires c.if-lead-ne1.false
