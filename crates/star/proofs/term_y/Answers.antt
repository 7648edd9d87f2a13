-- `star::term_y` meets its contract.
use native.Mathlib.Omega.{arith}
use Rattle.star.proofs.Numbers.{term_y-none, term_y-some}
use Rattle.star.proofs.term_y.Goals as goal

pub returns-then-q : goal.returns-then-q
returns-then-q c = term_y-none (omega arith) c.if-q.true

pub returns : goal.returns
returns c = term_y-some (omega arith) c.value_at-a.ensures c.opposite.ensures
