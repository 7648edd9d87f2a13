-- `pool::run_calls` meets its contract. The loop's invariant: the calls before place `at` are made, and the pool holds the records left.
use mathlib.Core.Path.{◌≡◌}
use Prim.Native.Nat.{◌-◌}
use lib.ListN.{length}
use Rattle.pool.proofs.Runs.{Going}
use Rattle.pool.proofs.run_calls.Given as goal

abbrev pub invariant-loop-at : goal.invariant-loop-at
invariant-loop-at l =
    (length l.pool ≡ length l.initial.pool) × (length l.scratch ≡ length l.initial.scratch) × Going l.curve l.initial.pool l.count l.calls (length l.initial.scratch) l.pool l.left l.at

abbrev pub decreases-loop-at : goal.decreases-loop-at
decreases-loop-at l = length l.calls - l.at
