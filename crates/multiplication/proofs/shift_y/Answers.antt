-- `multiplication::shift_y` meets its contract. The loop's invariant: what it ensures holds for the places below n.
use native.Mathlib.Omega.{arith}
use Rattle.multiplication.proofs.Shift.{shifted_start, shifted_more, shifted_skip, shifted_as, shifted_end}
use Rattle.multiplication.proofs.shift_y.Goals as goal
use Rattle.multiplication.proofs.shift_y.Goals.{then-class-ne2, else-class-ne2}

pub loop-n-init : goal.loop-n-init
loop-n-init c = shifted_start _

pub loop-n-preserved : goal.loop-n-preserved
loop-n-preserved c =
    elim c.if-class-ne2.branch [
      | then-class-ne2 w ↦
          shifted_as w.out-is (shifted_more c.requires c.loop-n.invariant c.loop-n-test.true (omega (arith, w.if-class-ne2.true)))
      | else-class-ne2 w ↦ shifted_as w.out-is (shifted_skip c.loop-n.invariant w.if-class-ne2.false)
    ]

pub returns : goal.returns
returns c = shifted_end c.loop-n.invariant (omega arith)
