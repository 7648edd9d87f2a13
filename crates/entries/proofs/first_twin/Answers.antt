-- `entries::first_twin` meets its contract, equation by equation.
use mathlib.Core.Path.{◌∙◌}
use lib.ListN.{get_or}
use Rattle.field.specs.Residue.{Z, el}
use Rattle.barrett.specs.Contract.{more₁}
use Rattle.chains.specs.Contract.{more₂_less₁}
use Rattle.entries.proofs.first_twin.Goals as goal

pub returns : goal.returns
returns c =
    let a = c.args in
    record {
      below = record { one = c.sum-one.ensures.below; x = c.more1-x.ensures.below; y = c.more1-y.ensures.below };
      one_is = c.sum-one.ensures.is ∙ (λ i. more₂_less₁ (Z a.modulus.p) (c.neg-t0.ensures.is i) (el a.modulus.p (get_or a.n 2 0)) (el a.modulus.p a.w.s0) (el a.modulus.p a.o.n11) (el a.modulus.p (get_or a.n 0 0)) (el a.modulus.p a.w.s) (el a.modulus.p a.w.t));
      x_is = c.more1-x.ensures.is ∙ (λ i. more₁ (Z a.modulus.p) ((c.neg-t2.ensures.is ∙ (λ i. (Z a.modulus.p).neg (c.add-t1.ensures.is i))) i) (el a.modulus.p a.o.n11) (el a.modulus.p (get_or a.n 5 0)));
      y_is = c.more1-y.ensures.is ∙ (λ i. more₁ (Z a.modulus.p) (c.sub-t3.ensures.is i) (el a.modulus.p a.o.n11) (el a.modulus.p (get_or a.n 2 0)));
    }
