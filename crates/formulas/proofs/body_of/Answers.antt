-- `formulas::body_of` meets its contract, equation by equation.
use mathlib.Core.Path.{◌∙◌}
use native.Mathlib.Omega.{arith}
use Rattle.field.specs.Residue.{Z, el}
use Rattle.chains.specs.Contract.{more₁_less₁, more₁_less₂, more₂_less₁, more₂_less₂}
use Rattle.formulas.proofs.body_of.Goals as goal

pub sum-w4-requires : goal.sum-w4-requires
sum-w4-requires c = let asked = c.requires in (omega arith, (omega arith, record { small = asked.o_below.small; x_below = c.sub-w3.ensures.below; few = omega arith; plus_below = (asked.h_below.g1, asked.u_below.t4, (asked.h_below.l, asked.u_below.t2, tt)); minus_below = (asked.h_below.f2, c.less1-k1.ensures.below, (asked.o_below.n7, asked.a_below, tt)) }))

pub sum-f0-requires : goal.sum-f0-requires
sum-f0-requires c = let asked = c.requires in (omega arith, (omega arith, record { small = asked.o_below.small; x_below = c.sum-w4.ensures.below; few = omega arith; plus_below = (c.mul-g2.ensures.below, asked.h_below.k2, tt); minus_below = (c.add-f1.ensures.below, asked.h_below.e4, tt) }))

pub cross-k3-requires : goal.cross-k3-requires
cross-k3-requires c = let asked = c.requires in record { small = asked.o_below.small; below_1 = asked.h_below.f2; below_2 = asked.h_below.q; below_3 = c.mul-g2.ensures.below; below_4 = asked.a_below }

pub sum-w5-requires : goal.sum-w5-requires
sum-w5-requires c = let asked = c.requires in (omega arith, (omega arith, record { small = asked.o_below.small; x_below = asked.v_below.t1; few = omega arith; plus_below = (asked.o_below.n6, asked.a_below, tt); minus_below = (asked.h_below.g1, asked.u_below.t3, tt) }))

pub add-w6-requires : goal.add-w6-requires
add-w6-requires c = record { below_1 = c.sum-f0.ensures.below; below_2 = c.requires.u_below.t1 }

pub sum-g0-requires : goal.sum-g0-requires
sum-g0-requires c = let asked = c.requires in (omega arith, (omega arith, record { small = asked.o_below.small; x_below = c.sum-w5.ensures.below; few = omega arith; plus_below = (c.add-f1.ensures.below, asked.h_below.e3, tt); minus_below = (asked.o_below.n9, c.cross-k3.ensures.below, (asked.h_below.l, c.add-w6.ensures.below, tt)) }))

pub returns : goal.returns
returns c =
    let a = c.args in
    record {
      below = record { g2 = c.mul-g2.ensures.below; f1 = c.add-f1.ensures.below; f0 = c.sum-f0.ensures.below; g0 = c.sum-g0.ensures.below };
      g2_is = c.mul-g2.ensures.is ∙ (λ i. (Z a.modulus.p).mul (el a.modulus.p a.i) ((c.sum-w.ensures.is ∙ (λ i. more₂_less₁ (Z a.modulus.p) (c.neg-w1.ensures.is i) (el a.modulus.p a.h.f2) (c.less1-m.ensures.is i) (el a.modulus.p a.a) (c.add-w2.ensures.is i) (el a.modulus.p a.h.q) (el a.modulus.p a.h.r0))) i));
      f1_is = c.add-f1.ensures.is;
      f0_is = c.sum-f0.ensures.is ∙ (λ i. more₁_less₁ (Z a.modulus.p) ((c.sum-w4.ensures.is ∙ (λ i. more₂_less₂ (Z a.modulus.p) (c.sub-w3.ensures.is i) (el a.modulus.p a.h.g1) (el a.modulus.p a.u.t4) (el a.modulus.p a.h.l) (el a.modulus.p a.u.t2) (el a.modulus.p a.h.f2) (c.less1-k1.ensures.is i) (el a.modulus.p a.o.n7) (el a.modulus.p a.a))) i) (el a.modulus.p c.mul-g2.result) (el a.modulus.p a.h.k2) (el a.modulus.p c.add-f1.result) (el a.modulus.p a.h.e4));
      g0_is = c.sum-g0.ensures.is ∙ (λ i. more₁_less₂ (Z a.modulus.p) (c.sum-w5.ensures.is i) (el a.modulus.p c.add-f1.result) (el a.modulus.p a.h.e3) (el a.modulus.p a.o.n9) (c.cross-k3.ensures.is i) (el a.modulus.p a.h.l) (c.add-w6.ensures.is i));
    }
