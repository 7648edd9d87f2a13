-- `entries::parts_of` meets its contract, equation by equation.
use mathlib.Core.Path.{◌∙◌}
use native.Mathlib.Omega.{arith}
use lib.ListN.{get_or}
use Rattle.field.specs.Residue.{Z, el}
use Rattle.barrett.specs.Contract.{more₁}
use Rattle.chains.specs.Contract.{more₁_less₁, more₂_less₁}
use Rattle.entries.proofs.parts_of.Goals as goal

pub sum-r0-requires : goal.sum-r0-requires
sum-r0-requires c =
    let asked = c.requires in (omega arith, (omega arith, record { small = asked.o_below.small; x_below = c.sub-t6.ensures.below; few = omega arith; plus_below = (asked.o_below.n11, asked.n_below.n7, tt); minus_below = (asked.n_below.n1, c.sub-r1.ensures.below, tt) }))

pub more1-k-requires : goal.more1-k-requires
more1-k-requires c =
    let asked = c.requires in
    record { small = asked.o_below.small; below_1 = c.sub-r1.ensures.below; below_2 = asked.o_below.n12; below_3 = asked.n_below.n5 }

pub returns : goal.returns
returns c =
    let a = c.args in
    record {
      below = record { a0 = c.mul-a0.ensures.below; a1 = c.mul-a1.ensures.below; a2 = c.mul-a2.ensures.below; r1 = c.sub-r1.ensures.below; r2 = c.sub-r2.ensures.below; s = c.sub-s.ensures.below; t = c.more1-t.ensures.below; s0 = c.sum-s0.ensures.below; r0 = c.sum-r0.ensures.below; k = c.more1-k.ensures.below; l = c.add-l.ensures.below };
      a0_is = c.mul-a0.ensures.is;
      a1_is = c.mul-a1.ensures.is;
      a2_is = c.mul-a2.ensures.is;
      r1_is = c.sub-r1.ensures.is;
      r2_is = c.sub-r2.ensures.is;
      s_is = c.sub-s.ensures.is;
      t_is = c.more1-t.ensures.is ∙ (λ i. more₁ (Z a.modulus.p) (c.add-t8.ensures.is i) (el a.modulus.p (get_or a.n 2 0)) (el a.modulus.p c.sub-r2.result));
      s0_is = c.sum-s0.ensures.is ∙ (λ i. more₂_less₁ (Z a.modulus.p) (c.add-t7.ensures.is i) (el a.modulus.p (get_or a.n 2 0)) (el a.modulus.p c.sub-r1.result) (el a.modulus.p (get_or a.n 1 0)) (el a.modulus.p c.sub-r2.result) (el a.modulus.p a.o.n11) (el a.modulus.p (get_or a.n 8 0)));
      r0_is = c.sum-r0.ensures.is ∙ (λ i. more₁_less₁ (Z a.modulus.p) (c.sub-t6.ensures.is i) (el a.modulus.p a.o.n11) (el a.modulus.p (get_or a.n 7 0)) (el a.modulus.p (get_or a.n 1 0)) (el a.modulus.p c.sub-r1.result));
      k_is = c.more1-k.ensures.is;
      l_is = c.add-l.ensures.is;
    }
