-- `parts::meet` meets its contract: the star of u·J* + v·N.
use Rattle.parts.proofs.Common.{meet_asked, meet_of}
use Rattle.parts.proofs.meet.Goals as goal

pub star_of-requires : goal.star_of-requires
star_of-requires c = meet_asked c.negative-m.ensures c.least-v.ensures c.requires

pub returns : goal.returns
returns c = meet_of c.negative-m.ensures c.least-v.ensures c.star_of.ensures
