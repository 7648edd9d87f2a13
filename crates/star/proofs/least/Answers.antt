-- `star::least` meets its contract.
use native.Mathlib.Omega.{arith}
use Rattle.star.proofs.Asked.{least_of}
use Rattle.star.proofs.least.Goals as goal

pub returns-then-d-2 : goal.returns-then-d-2
returns-then-d-2 c = least_of (omega arith) (omega arith) (omega arith) (omega arith)

pub returns-then-d : goal.returns-then-d
returns-then-d c = least_of (omega arith) (omega arith) (omega arith) (omega arith)

pub returns-then-d-3 : goal.returns-then-d-3
returns-then-d-3 c = least_of (omega arith) (omega arith) (omega arith) (omega arith)

pub returns : goal.returns
returns c = least_of (omega arith) (omega arith) (omega arith) (omega arith)
