-- `group::negative` meets its contract: the star of the triple is the star of the divisor's ideal.
use Rattle.group.proofs.Stars.{negative_asked, negative_of}
use Rattle.group.proofs.negative.Goals as goal

pub star-requires : goal.star-requires
star-requires c = negative_asked c.triple_of-t.ensures c.requires

pub returns : goal.returns
returns c = negative_of c.triple_of-t.ensures c.star.ensures
