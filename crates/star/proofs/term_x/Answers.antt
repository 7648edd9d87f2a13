-- `star::term_x` meets its contract.
use native.Mathlib.Omega.{arith}
use Rattle.star.proofs.Numbers.{term_x-none, term_x-some}
use Rattle.star.proofs.term_x.Goals as goal

pub returns-then-q : goal.returns-then-q
returns-then-q c = term_x-none (omega arith) c.if-q.true

pub returns : goal.returns
returns c = term_x-some (omega arith) c.requires.values c.value_at-a.ensures c.mul_add-b.ensures c.neg.ensures
