-- `parts::least` meets its contract: the member in the first class.
use Rattle.parts.proofs.Classes.{least_is}
use Rattle.parts.proofs.least.Goals as goal

pub returns : goal.returns
returns c = least_is c.places_of-q.ensures c.member.ensures
