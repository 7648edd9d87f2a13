-- `multiples::multiple` meets its contract. The loop's invariant: r stands for i copies of a, b for j copies, and i + n·j = m. The measure is n.
use mathlib.Core.Logic.{⊎_elim}
use Prim.Native.Nat.{◌/◌}
use Rattle.group.specs.Contract.{NegativeAsked}
use Rattle.multiples.proofs.Copies.{Held, held-odd, held_even}
use Rattle.multiples.proofs.multiple.Given as goal

abbrev pub invariant-loop-n : goal.invariant-loop-n
invariant-loop-n l = (A : NegativeAsked l.g l.initial.b) → Held A.grounded A.a_is l.m 1 l.r l.b l.n

abbrev pub decreases-loop-n : goal.decreases-loop-n
decreases-loop-n l = l.n
