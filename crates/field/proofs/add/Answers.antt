-- `field::add` meets its contract: a sum below p is itself; from p on, p is taken off.
use native.Mathlib.Omega.{arith}
use Rattle.field.proofs.Sums.{sum-small, sum-large}
use Rattle.field.proofs.add.Goals as goal

pub returns-then-a-d : goal.returns-then-a-d
returns-then-a-d c = sum-small _ _ _ (omega arith)

pub returns-else-a-d : goal.returns-else-a-d
returns-else-a-d c = sum-large _ _ _ (omega arith) (omega arith) (omega arith)
