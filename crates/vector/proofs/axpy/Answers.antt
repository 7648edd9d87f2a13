-- `vector::axpy` meets its contract. The loop's invariant: what it ensures holds for the numbers below i.
use native.Mathlib.Omega.{arith}
use Rattle.vector.proofs.Loop.{added_start, added_none, added_skip, added_more, added_end}
use Rattle.vector.proofs.axpy.Goals as goal

pub returns-then-c-eq0 : goal.returns-then-c-eq0
returns-then-c-eq0 c = added_none c.requires c.if-c-eq0.true

pub loop-i-init : goal.loop-i-init
loop-i-init c = added_start c.requires

pub loop-i-preserved-then-a-eq0 : goal.loop-i-preserved-then-a-eq0
loop-i-preserved-then-a-eq0 c = added_skip c.loop-i.invariant c.if-a-eq0.true

pub mul_add-requires : goal.mul_add-requires
mul_add-requires c =
    record { below_1 = c.requires.c_below; below_2 = c.requires.b_vec.below _; below_3 = c.loop-i.invariant.vec.below _ }

pub loop-i-preserved : goal.loop-i-preserved
loop-i-preserved c = added_more c.requires c.loop-i.invariant c.loop-i-test.true c.mul_add.ensures

pub returns : goal.returns
returns c = added_end c.loop-i.invariant (omega arith)
