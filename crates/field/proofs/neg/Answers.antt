-- `field::neg` meets its contract: 0 stays, and any other number is taken from p.
use Rattle.field.proofs.Invert.{lt_of_ne}
use native.Mathlib.Omega.{arith}
use Rattle.field.proofs.Sums.{negative-zero, negative-more}
use Rattle.field.proofs.neg.Goals as goal

pub returns-then-a-eq0 : goal.returns-then-a-eq0
returns-then-a-eq0 c = negative-zero _ _ (omega arith) (omega arith)

pub returns-else-a-eq0 : goal.returns-else-a-eq0
returns-else-a-eq0 c = negative-more _ _ (omega arith) (lt_of_ne _ c.if-a-eq0.false)
