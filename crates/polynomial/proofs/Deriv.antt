-- The coefficients of the formal derivative, and the derivative of constants.
--   numeral-one numeral-number      the numerals of Deriv are those of the ring solver
--   coef-deriv         the coefficient of the derivative
--   deriv-zero deriv-one deriv-const
use mathlib.Core.Path.{◌≡◌, refl, sym, ◌∙◌, ap}
use Prim.Native.Nat.{ℕ, zero, suc}
use Rattle.algebra.specs.Ring.{CommRing}
use Rattle.algebra.proofs.Laws.{mul-zero}
use Rattle.algebra.proofs.Sound.{number}
use Rattle.polynomial.specs.Poly.{Poly, coef, poly_path, const}
use Rattle.polynomial.specs.Deriv.{numeral, deriv_series, deriv, deriv_of_zero}
use Rattle.polynomial.proofs.Coef.{coef-zero, coef-poly, coef-const-next, const-one}

module _ (A : CommRing) where
  open A use {Car, zero as 𝟘, one as 𝟙, add as ◌⊕◌, mul as ◌⊗◌, add_zero, mul_add}
  open Poly A use {Car as Pol, zero as 𝟎, one as 𝟏, add as ◌+ₚ◌, mul as ◌·ₚ◌}

  infixl 60 ◌⊕◌ ◌+ₚ◌
  infixl 70 ◌⊗◌ ◌·ₚ◌
  pub numeral-number : (n : ℕ) → numeral A n ≡ number A n
  unfolding numeral
  numeral-number zero = refl
  numeral-number (suc n) = ap (λ t. 𝟙 ⊕ t) (numeral-number n)

  pub numeral-one : numeral A 1 ≡ 𝟙
  unfolding numeral
  numeral-one = add_zero 𝟙

  pub coef-deriv : (f : Pol) (i : ℕ) → coef A (deriv A f) i ≡ numeral A (suc i) ⊗ coef A f (suc i)
  unfolding deriv deriv_series
  coef-deriv f i = coef-poly A _ _ i

  pub deriv-zero : deriv A 𝟎 ≡ 𝟎
  deriv-zero = deriv_of_zero A

  pub deriv-const : (k : Car) → deriv A (const A k) ≡ 𝟎
  deriv-const k = poly_path A (λ i. simp (coef-deriv, coef-const-next A, mul-zero A, coef-zero A))

  pub deriv-one : deriv A 𝟏 ≡ 𝟎
  deriv-one = ap (deriv A) (sym (const-one A)) ∙ deriv-const 𝟙
