-- `inversion::inverse_by` meets its contract. The loop's invariant is State of proofs/Binary, and its measure x + y.
use Rattle.std.proofs.Common.{◌+◌}
use Rattle.inversion.proofs.Binary.{State}
use Rattle.inversion.proofs.inverse_by.Given as goal

abbrev pub invariant-loop-y : goal.invariant-loop-y
invariant-loop-y l = State l.p l.a l.x l.y l.cx l.cy l.k l.negative

abbrev pub decreases-loop-y : goal.decreases-loop-y
decreases-loop-y l = l.x + l.y
