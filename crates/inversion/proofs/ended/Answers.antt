-- `inversion::ended` meets its contract.
use Rattle.std.proofs.Common.{arith}
use Rattle.inversion.proofs.Quotient.{two_halves, end-negative, end-positive}
use Rattle.inversion.proofs.ended.Goals as goal

pub returns-then-negative : goal.returns-then-negative
returns-then-negative c = end-negative (two_halves _ _ _ _ _ _ _ c.halved-s.ensures c.halved-r.ensures (omega arith)) c.if-negative.true

pub returns-else-negative : goal.returns-else-negative
returns-else-negative c = end-positive (two_halves _ _ _ _ _ _ _ c.halved-s.ensures c.halved-r.ensures (omega arith)) c.if-negative.false
