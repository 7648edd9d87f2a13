-- `vector::dot` meets its contract. The loop's invariant: r is the sum up to n.
use Prim.Native.Nat.{◌≤◌, ◌-◌}
use Rattle.field.specs.Contract.{Is}
use Rattle.vector.specs.Contract.{pairing}
use Rattle.vector.proofs.dot.Given as goal

abbrev pub invariant-loop-n : goal.invariant-loop-n
invariant-loop-n l = Is l.p l.r (pairing l.p l.a l.b l.s l.from l.n) × (l.n - l.from ≤ l.to - l.from)
