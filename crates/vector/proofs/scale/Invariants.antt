-- `vector::scale` meets its contract. The loop's invariant: what it ensures holds for the numbers seen so far, the rest put behind them.
use Rattle.std.proofs.Common.{◌++◌, drop}
use Rattle.vector.specs.Contract.{Scaled}
use Rattle.vector.proofs.scale.Given as goal

abbrev pub invariant-loop-a : goal.invariant-loop-a
invariant-loop-a l = Scaled l.p l.fn.v l.c l.a-index (l.a-items ++ drop l.e l.fn.v)
