-- `parts::overlap` meets its contract: two stars.
use Rattle.parts.proofs.Common.{star_asked, overlap_of}
use Rattle.parts.proofs.overlap.Goals as goal

pub negative-requires : goal.negative-requires
negative-requires c = star_asked c.star_of-s.ensures c.requires

pub returns : goal.returns
returns c = overlap_of c.star_of-s.ensures c.negative.ensures
