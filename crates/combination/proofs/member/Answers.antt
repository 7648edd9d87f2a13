-- `combination::member` meets its contract: a row of the divisor's triple, and its degree.
use Rattle.combination.proofs.Members.{member_of}
use Rattle.combination.proofs.member.Goals as goal

pub returns : goal.returns
returns c = member_of c.triple_of-t.ensures c.requires
