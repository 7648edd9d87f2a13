-- In the loop the products up to that before place i are in place.
use native.Mathlib.Omega.{arith}
use Rattle.quotients.proofs.Loops.{filled-start, filled_more, filled_done}
use Rattle.quotients.proofs.products.Goals as goal

pub loop-i-init : goal.loop-i-init
loop-i-init c = filled-start c.args.p _ c.requires.large

pub mul-requires : goal.mul-requires
mul-requires c =
    let l = c.loop-i in
    record { below_1 = (l.invariant.each l.i (omega arith)).below; below_2 = c.requires.below l.i c.loop-i-test.true }

pub loop-i-preserved : goal.loop-i-preserved
loop-i-preserved c =
    filled_more c.args.p _ c.loop-i-test.true c.loop-i.invariant c.mul.ensures

pub returns : goal.returns
returns c =
    filled_done c.args.p _ (omega (arith, c.loop-i-test.false)) c.loop-i.invariant
