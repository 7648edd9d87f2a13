-- `formulas::head_of` meets its contract, equation by equation.
use mathlib.Core.Path.{◌∙◌}
use Rattle.field.specs.Residue.{Z, el}
use Rattle.barrett.specs.Contract.{less₁, more₁}
use Rattle.chains.specs.Contract.{more₁_less₂}
use Rattle.formulas.proofs.head_of.Goals as goal

pub less1-e3-requires : goal.less1-e3-requires
less1-e3-requires c = let asked = c.requires in record { small = asked.o_below.small; below_1 = asked.v_below.t3; below_2 = c.mul-l.ensures.below; below_3 = asked.u_below.t3 }

pub less1-e4-requires : goal.less1-e4-requires
less1-e4-requires c = let asked = c.requires in record { small = asked.o_below.small; below_1 = asked.v_below.t4; below_2 = c.mul-l.ensures.below; below_3 = asked.u_below.t4 }

pub returns : goal.returns
returns c =
    let a = c.args in
    record {
      below = record { l = c.mul-l.ensures.below; q = c.less1-q.ensures.below; f2 = c.less1-f2.ensures.below; k2 = c.less1-k2.ensures.below; r0 = c.more1-r0.ensures.below; g1 = c.sum-g1.ensures.below; e3 = c.less1-e3.ensures.below; e4 = c.less1-e4.ensures.below };
      l_is = c.mul-l.ensures.is;
      q_is = c.less1-q.ensures.is;
      f2_is = c.less1-f2.ensures.is ∙ (λ i. less₁ (Z a.modulus.p) (c.add-w1.ensures.is i) (el a.modulus.p a.o.n11) (el a.modulus.p a.a));
      k2_is = c.less1-k2.ensures.is;
      r0_is = c.more1-r0.ensures.is ∙ (λ i. more₁ (Z a.modulus.p) (c.sub-w2.ensures.is i) (el a.modulus.p c.mul-l.result) (c.add-w3.ensures.is i));
      g1_is = c.sum-g1.ensures.is ∙ (λ i. more₁_less₂ (Z a.modulus.p) (el a.modulus.p a.v.t3) (el a.modulus.p a.o.n9) (el a.modulus.p a.a) (el a.modulus.p c.mul-l.result) (c.add-w5.ensures.is i) (c.mul-w4.ensures.is i) (el a.modulus.p c.less1-q.result));
      e3_is = c.less1-e3.ensures.is;
      e4_is = c.less1-e4.ensures.is;
    }
