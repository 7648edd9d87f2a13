-- `formulas::last_of` meets its contract, equation by equation.
use mathlib.Core.Path.{◌∙◌}
use Rattle.field.specs.Residue.{Z, el}
use Rattle.barrett.specs.Contract.{cross₂}
use Rattle.chains.specs.Contract.{more₁_less₁}
use Rattle.formulas.proofs.Divided.{h0-divided, h1-divided, h2-divided}
use Rattle.formulas.proofs.last_of.Goals as goal

pub returns : goal.returns
returns c =
    let a = c.args in
    record {
      below = record { h0 = c.cross-h0.ensures.below; h1 = c.cross-h1.ensures.below; h2 = c.sum-h2.ensures.below };
      h0_is = c.cross-h0.ensures.is ∙ (λ i. cross₂ (Z a.modulus.p) (el a.modulus.p a.b.f0) (c.mul-l.ensures.is i) (el a.modulus.p a.b.g0) (c.mul-k.ensures.is i)) ∙ h0-divided (Z a.modulus.p) _ _ _ _ _;
      h1_is = c.cross-h1.ensures.is ∙ (λ i. cross₂ (Z a.modulus.p) (c.mul-l.ensures.is i) (el a.modulus.p a.b.g2) (el a.modulus.p a.i) (el a.modulus.p a.b.g0)) ∙ h1-divided (Z a.modulus.p) _ _ _ _;
      h2_is = c.sum-h2.ensures.is ∙ (λ i. more₁_less₁ (Z a.modulus.p) (el a.modulus.p a.h.g1) (el a.modulus.p a.i) (el a.modulus.p a.b.f0) (el a.modulus.p a.b.g2) (c.mul-k.ensures.is i)) ∙ h2-divided (Z a.modulus.p) _ _ _ _ _;
    }
