-- `field::sub` meets its contract: where a < b, p is added.
use native.Mathlib.Omega.{arith}
use Rattle.field.proofs.Sums.{difference-large, difference-small}
use Rattle.field.proofs.sub.Goals as goal

pub returns-then-a-b : goal.returns-then-a-b
returns-then-a-b c = difference-small _ _ _ (omega arith) (omega arith)

pub returns-else-a-b : goal.returns-else-a-b
returns-else-a-b c = difference-large _ _ _ (omega arith) (omega arith)
