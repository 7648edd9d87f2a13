-- `usual::completed` meets its contract: its numbers solve the equations for the numbers of the sum.
use Rattle.usual.proofs.Complete.{complete}
use Rattle.usual.proofs.completed.Goals as goal

pub returns : goal.returns
returns c = complete c.tail_of-u.ensures c.tail_of-v.ensures c.head_of-h.ensures c.body_of-b.ensures c.last_of-l.ensures c.requires.o_below.small
