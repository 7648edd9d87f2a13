-- In the loop the quotients from the coefficient i on are in place, and unit is the inverse of the product before it.
use Prim.Native.Nat.{◌-◌}
use native.Mathlib.Omega.{arith}
use Rattle.quotients.proofs.Loops.{divided-start, divided-more, divided_done}
use Rattle.quotients.proofs.quotients.Goals as goal

pub inverse-unit-requires : goal.inverse-unit-requires
inverse-unit-requires c = record { prime = c.requires.prime; below = (c.requires.products.each 9 (omega arith)).below }

pub loop-i-init : goal.loop-i-init
loop-i-init c = divided-start c.args.s.now c.args.p _ c.requires c.inverse-unit.ensures

pub numerator-n-requires : goal.numerator-n-requires
numerator-n-requires c = record { long = c.requires.long; place = omega arith; positive = omega (arith, c.requires.prime.two_le) }

pub mul-inverse-requires : goal.mul-inverse-requires
mul-inverse-requires c =
    let l = c.loop-i in
    record { below_1 = (c.requires.products.each (l.i - 1) (omega arith)).below; below_2 = l.invariant.below }

pub mul-quotient-requires : goal.mul-quotient-requires
mul-quotient-requires c = record { below_1 = c.numerator-n.ensures.below; below_2 = c.mul-inverse.ensures.below }

pub mul-unit-requires : goal.mul-unit-requires
mul-unit-requires c =
    let l = c.loop-i in
    record { below_1 = l.invariant.below; below_2 = (c.requires.residues.each (l.i - 1) (omega arith)).below }

pub loop-i-preserved : goal.loop-i-preserved
loop-i-preserved c =
    let l = c.loop-i in
    divided-more c.args.s.now c.args.p _ l.auto.i c.loop-i-test.true c.requires l.invariant
    c.numerator-n.ensures
    c.mul-inverse.ensures
    c.mul-quotient.ensures
    c.mul-unit.ensures

pub returns : goal.returns
returns c =
    divided_done c.args.s.now c.args.p _ (omega (arith, c.loop-i-test.false)) c.loop-i.invariant
