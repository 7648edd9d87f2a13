-- `multiplication::times_y` meets its contract. The loop's invariant is YPart of proofs/ByY; its measure: top − n.
use Prim.Native.Nat.{◌-◌}
use Rattle.multiplication.proofs.ByY.{YPart}
use Rattle.multiplication.proofs.times_y.Given as goal

abbrev pub invariant-loop-n : goal.invariant-loop-n
invariant-loop-n l = YPart l.p l.cube l.v l.top l.n l.out

abbrev pub decreases-loop-n : goal.decreases-loop-n
decreases-loop-n l = l.top - l.n
