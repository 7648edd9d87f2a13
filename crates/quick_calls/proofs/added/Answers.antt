-- `quick_calls::added` meets its contract: the sum that was served, or the plain sum.
use Rattle.classes.proofs.Values.{sum-made}
use Rattle.quick_calls.proofs.added.Goals as goal

pub returns-in-Some : goal.returns-in-Some
returns-in-Some c k o a b v u = (c.in-Some.ensures k o a b v u).yes.1

pub returns-in-None : goal.returns-in-None
returns-in-None c k o a b v u = sum-made o v u c.sum.ensures
