-- `multiplication::times_y` meets its contract. The loop's invariant is YPart of proofs/ByY; it leaves at its head, or after its last turn.
use native.Mathlib.Omega.{arith}
use Rattle.multiplication.proofs.ByY.{y-start, y-asked, y-more, y-end}
use Rattle.multiplication.proofs.times_y.Goals as goal

pub shift_y-out-requires : goal.shift_y-out-requires
shift_y-out-requires c = record { room = omega arith }

pub loop-n-init : goal.loop-n-init
loop-n-init c = y-start c.requires c.shift_y-out.ensures

pub axpy-requires : goal.axpy-requires
axpy-requires c = y-asked c.requires c.loop-n.invariant c.loop-n-test.true

pub loop-n-preserved : goal.loop-n-preserved
loop-n-preserved c = y-more c.requires c.loop-n.invariant c.loop-n-test.true c.axpy.ensures

pub returns : goal.returns
returns c = y-end c.requires c.loop-n.invariant (omega arith)

pub returns-2 : goal.returns-2
returns-2 c = y-end c.requires (y-more c.requires c.loop-n.invariant c.loop-n-test.true c.axpy.ensures) (omega arith)
