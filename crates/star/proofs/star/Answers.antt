-- `star::star` meets its contract.
use native.Mathlib.Omega.{arith}
use Rattle.star.proofs.Asked.{least-small}
use Rattle.star.proofs.Result.{starred_0}
use Rattle.star.proofs.star.Goals as goal

pub overflow_add-e : goal.overflow_add-e
overflow_add-e c = omega (arith, least-small c.requires c.least-j.ensures)

pub returns-then-e2-e : goal.returns-then-e2-e
returns-then-e2-e c A = starred_0 A c.least-j.ensures c.if-e2-e.true c.zero_class.ensures
