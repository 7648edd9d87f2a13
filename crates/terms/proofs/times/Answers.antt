-- `terms::times` meets its contract. The loop's invariant is TimesPart of proofs/Product.
use native.Mathlib.Omega.{arith}
use Rattle.terms.proofs.Product.{part-start, turn_asked, turn_more, turn_skip, part_end, part_as}
use Rattle.terms.proofs.times.Goals as goal
use Rattle.terms.proofs.times.Goals.{in-Some, in_default}

pub loop-n-init : goal.loop-n-init
loop-n-init c = part-start c.requires

pub bounds-ys-j : goal.bounds-ys-j
bounds-ys-j c = omega (arith, c.in-Some.ensures.power, c.in-Some.ensures.proper)

pub overflow_mul-j : goal.overflow_mul-j
overflow_mul-j c = omega (arith, c.in-Some.ensures.power, c.in-Some.ensures.proper)

pub overflow_add-top : goal.overflow_add-top
overflow_add-top c = omega (arith, c.in-Some.ensures.power, c.in-Some.ensures.proper)

pub axpy-requires : goal.axpy-requires
axpy-requires c = turn_asked c.requires c.loop-n.invariant c.loop-n-test.true c.in-Some.ensures

pub loop-n-preserved : goal.loop-n-preserved
loop-n-preserved c =
    elim c.match-at.branch [
      | in-Some w ↦ part_as w.out-is (turn_more c.requires c.loop-n.invariant c.loop-n-test.true w.in-Some.ensures w.axpy.ensures)
      | in_default w ↦ part_as w.out-is (turn_skip c.requires c.loop-n.invariant c.loop-n-test.true w.in_default.ensures)
    ]

pub returns : goal.returns
returns c = part_end c.requires c.loop-n.invariant (omega arith)
