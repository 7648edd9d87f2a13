-- The inverse of −a0 where a0 is 1.
--   minus_one              −1 is its own inverse
use mathlib.Core.Path.{◌≡◌, ◌∙◌, ap}
use Prim.Native.Nat.{ℕ}
use Rattle.algebra.specs.Ring.{CommRing}
use Rattle.algebra.proofs.Laws.{neg-neg, mul-neg}
use Rattle.field.specs.Residue.{Z, el}
use Rattle.field.proofs.Element.{el-one}
use Rattle.field.specs.Contract.{Is}
use Rattle.equation.specs.Equation.{curve_of}
use Rattle.equation.specs.declared.Equation.{Equation}
use Rattle.ground.specs.Ground.{UnitOf, GroundAsked}

module _ {e : Equation} (h : GroundAsked e) where
  pub minus_one : (k : ℕ) → Is e.p k ((Z e.p).neg (el e.p 1)) → UnitOf e.p k (curve_of e)
  minus_one k i = record { below = i.below; inverse = ap (λ u. R.mul u (R.neg (el e.p e.a0))) k_is ∙ ap (λ a. R.mul (R.neg R.one) (R.neg a)) a0_is ∙ square }
    where
      R : CommRing
      R = Z e.p

      k_is : el e.p k ≡ R.neg R.one
      k_is = i.is ∙ ap R.neg (el-one e.p)

      a0_is : el e.p e.a0 ≡ R.one
      a0_is = ap (el e.p) h.one ∙ el-one e.p

      square : R.mul (R.neg R.one) (R.neg R.one) ≡ R.one
      square = mul-neg R (R.neg R.one) R.one ∙ ap R.neg (R.mul_one (R.neg R.one)) ∙ neg-neg R R.one
