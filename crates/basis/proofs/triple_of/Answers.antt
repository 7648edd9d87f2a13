-- `basis::triple_of` meets its contract: the arm taken is that of the record's kind.
use Rattle.basis.proofs.Choice.{chosen}
use Rattle.basis.proofs.triple_of.Goals as goal

pub returns-in-Zero : goal.returns-in-Zero
returns-in-Zero c = chosen c.triple_0.ensures c.in-Zero.is

pub returns-in-K11 : goal.returns-in-K11
returns-in-K11 c = chosen c.triple_11.ensures c.in-K11.is

pub returns-in-K21 : goal.returns-in-K21
returns-in-K21 c = chosen c.triple_21.ensures c.in-K21.is

pub returns-in-K22 : goal.returns-in-K22
returns-in-K22 c = chosen c.triple_22.ensures c.in-K22.is

pub returns-in-K31 : goal.returns-in-K31
returns-in-K31 c = chosen c.triple_31.ensures c.in-K31.is
