-- `lambda::opposite` meets its contract.
use native.Mathlib.Omega.{arith}
use Rattle.lambda.proofs.Leads.{opposite-one, opposite_turn}
use Rattle.lambda.proofs.opposite.Goals as goal

pub returns-then-m-lt3 : goal.returns-then-m-lt3
returns-then-m-lt3 c = opposite-one c.if-m-lt3.true c.neg.ensures

pub returns : goal.returns
returns c = opposite_turn (omega arith) c.mul-w.ensures c.neg-2.ensures
