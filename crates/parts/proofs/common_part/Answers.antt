-- `parts::common_part` meets its contract: the reduced ideal of 1·I + 1·J.
use Rattle.parts.proofs.Common.{part-asked, part_of}
use Rattle.parts.proofs.common_part.Goals as goal

pub overlap-requires : goal.overlap-requires
overlap-requires c = part-asked c.zero_class-zero.ensures c.member-one.ensures c.requires

pub returns : goal.returns
returns c = part_of c.zero_class-zero.ensures c.member-one.ensures c.overlap.ensures
