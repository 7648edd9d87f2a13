-- `parts::common_multiple` meets its contract: I is (u : I*) for the least element u of I.
use Rattle.parts.proofs.Common.{multiple-asked, multiple_of}
use Rattle.parts.proofs.common_multiple.Goals as goal

pub meet-requires : goal.meet-requires
meet-requires c = multiple-asked c.negative-n.ensures c.least-u.ensures c.requires

pub returns : goal.returns
returns c = multiple_of c.negative-n.ensures c.least-u.ensures c.meet.ensures
