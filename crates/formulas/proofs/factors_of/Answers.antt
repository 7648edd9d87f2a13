-- `formulas::factors_of` meets its contract, equation by equation.
use mathlib.Core.Path.{sym, ◌∙◌, ap}
use Rattle.field.specs.Residue.{Z, el}
use Rattle.barrett.specs.Contract.{cross₂}
use Rattle.chains.specs.Contract.{more₁_less₁}
use Rattle.formulas.proofs.Inverted.{product_beside}
use Rattle.formulas.proofs.factors_of.Goals as goal

pub returns : goal.returns
returns c =
    let a = c.args in
    record {
      y_is = record { below = c.cross-y.ensures.below; is = c.cross-y.ensures.is ∙ (λ i. cross₂ (Z a.modulus.p) (el a.modulus.p a.z) ((c.sum-w1.ensures.is ∙ (λ i. more₁_less₁ (Z a.modulus.p) (c.sub-w0.ensures.is i) (el a.modulus.p a.z) (el a.modulus.p a.f2) (el a.modulus.p a.o.n11) (el a.modulus.p a.c))) i) (c.mul-w2.ensures.is i) (el a.modulus.p a.c)) };
      zy_is = record { below = c.cross-zy.ensures.below; is = c.cross-zy.ensures.is ∙ (λ i. cross₂ (Z a.modulus.p) (c.mul-zz.ensures.is i) (el a.modulus.p c.sum-w1.result) (el a.modulus.p c.mul-w2.result) (c.mul-zc.ensures.is i)) ∙ product_beside (Z a.modulus.p) (el a.modulus.p a.z) (el a.modulus.p c.sum-w1.result) (el a.modulus.p c.mul-w2.result) (el a.modulus.p a.c) ∙ ap ((Z a.modulus.p).mul (el a.modulus.p a.z)) (sym c.cross-y.ensures.is) };
      zzz_is = record { below = c.mul-zzz.ensures.below; is = c.mul-zzz.ensures.is ∙ (λ i. (Z a.modulus.p).mul (c.mul-zz.ensures.is i) (el a.modulus.p a.z)) };
    }
