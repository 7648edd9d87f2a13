-- `lambda::value` meets its contract.
use native.Mathlib.Omega.{arith}
use Rattle.lambda.proofs.Pairing.{valued_shifted, valued_plain}
use Rattle.lambda.proofs.value.Goals as goal

pub returns-then-c-s : goal.returns-then-c-s
returns-then-c-s c = valued_shifted c.requires c.dot.ensures

pub returns : goal.returns
returns c = valued_plain c.requires (omega arith) c.dot-2.ensures
