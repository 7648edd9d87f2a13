-- `multiplicity::member` meets its contract, by `member_test` of proofs/Rests.
use Rattle.multiplicity.proofs.Rests.{reduce_asked, zero_asked, member_test}
use Rattle.multiplicity.proofs.member.Goals as goal

pub reduce-requires : goal.reduce-requires
reduce-requires c = reduce_asked c.requires

pub is_zero-requires : goal.is_zero-requires
is_zero-requires c = zero_asked c.reduce.ensures

pub returns : goal.returns
returns c = member_test c.requires.triple c.reduce.ensures c.is_zero.ensures
