-- `listing::put` meets its contract. The loop's invariant is Putting of proofs/Slices.
use Prim.Native.Nat.{◌+◌, ◌*◌}
use native.Mathlib.Omega.{arith}
use lib.ListN.{length-set}
use Rattle.listing.proofs.Slices.{putting_start, putting_more, putting_end, putting_length}
use Rattle.listing.proofs.put.Goals as goal

pub loop-i-init : goal.loop-i-init
loop-i-init c = putting_start c.requires

pub overflow_add-at : goal.overflow_add-at
overflow_add-at c = omega (arith, c.loop-i.invariant.room, putting_length c.loop-i.invariant)

pub overflow_mul-at : goal.overflow_mul-at
overflow_mul-at c = omega (arith, c.loop-i.invariant.room, putting_length c.loop-i.invariant)

pub bounds-out-at : goal.bounds-out-at
bounds-out-at c = omega (arith, c.loop-i.invariant.room, putting_length c.loop-i.invariant)

pub overflow_add-out : goal.overflow_add-out
overflow_add-out c = omega (arith, c.loop-i.invariant.room, putting_length c.loop-i.invariant)

pub bounds-out-at-in-loop-i : goal.bounds-out-at-in-loop-i
bounds-out-at-in-loop-i c =
    omega
    (arith, c.loop-i.invariant.room, putting_length c.loop-i.invariant, length-set c.loop-i.out (2 * (c.args.n + c.loop-i.i)) c.args.a)

pub loop-i-preserved : goal.loop-i-preserved
loop-i-preserved c = putting_more c.loop-i.invariant (omega arith)

pub returns : goal.returns
returns c = putting_end c.loop-i.invariant (omega arith)
