-- The derivative by x in k[x, y].
--   coef-by_x              the coefficient of by_x f at yⁱ is the derivative of that of f
use mathlib.Core.Path.{◌≡◌}
use Prim.Native.Nat.{ℕ}
use Rattle.algebra.specs.Ring.{CommRing}
use Rattle.polynomial.specs.Poly.{Poly, coef}
use Rattle.polynomial.specs.Deriv.{deriv}
use Rattle.polynomial.specs.Plane.{Plane, each, by_x}
use Rattle.polynomial.proofs.Coef.{coef-poly}

module _ (k : CommRing) where
  open Poly k use {Car as Pol, zero as 𝟎}
  open Plane k use {Car, zero as 𝟘, one as 𝟙, add as ◌⊕◌, mul as ◌⊗◌}

  infixl 60 ◌⊕◌
  infixl 70 ◌⊗◌
  pub coef-by_x : (f : Car) (i : ℕ) → coef (Poly k) (by_x k f) i ≡ deriv k (coef (Poly k) f i)
  unfolding by_x each
  coef-by_x f i = coef-poly (Poly k) _ _ i
