-- `entries::third_twin` meets its contract, equation by equation.
use mathlib.Core.Path.{◌∙◌}
use lib.ListN.{get_or}
use Rattle.field.specs.Residue.{Z, el}
use Rattle.chains.specs.Contract.{more₂_less₁}
use Rattle.entries.proofs.third_twin.Goals as goal

pub returns : goal.returns
returns c =
    let a = c.args in
    record {
      below = record { one = c.sum-one.ensures.below; x = c.sum-x.ensures.below; y = c.sum-y.ensures.below };
      one_is = c.sum-one.ensures.is;
      x_is = c.sum-x.ensures.is ∙ (λ i. more₂_less₁ (Z a.modulus.p) ((c.neg-t1.ensures.is ∙ (λ i. (Z a.modulus.p).neg (c.add-t0.ensures.is i))) i) (el a.modulus.p a.w.k) (el a.modulus.p (get_or a.n 1 0)) (el a.modulus.p a.w.l) (el a.modulus.p (get_or a.n 4 0)) (el a.modulus.p a.w.s) (el a.modulus.p a.w.r1));
      y_is = c.sum-y.ensures.is;
    }
