-- The formal derivative of a polynomial over a commutative ring A.
--   numeral A n        1 + … + 1, n times, in A
--   deriv_series a     the series with the coefficient (i + 1)·aᵢ₊₁ at i
--   deriv A f          the derivative
--   deriv_of_zero      the derivative of 0 is 0, on which the derivative by x in k[x, y] rests
use Rattle.std.specs.Prelude.{◌≡◌, ℕ, zero, suc}
use Rattle.algebra.specs.Ring.{CommRing}
use Rattle.algebra.proofs.Laws.{mul-zero}
use Rattle.series.specs.Series.{Series}
use Rattle.series.proofs.Bounds.{finite-tail, finite-times}
use Rattle.polynomial.specs.Poly.{Poly, coef, poly, poly_path, finite}

module _ (A : CommRing) where
  unfoldable pub numeral : ℕ → A.Car
  numeral zero = A.zero
  numeral (suc n) = A.add A.one (numeral n)

  unfoldable pub deriv_series : Series A → Series A
  deriv_series a i = A.mul (numeral (suc i)) (a (suc i))

  unfoldable pub deriv : (Poly A).Car → (Poly A).Car
  unfolding deriv_series
  deriv f = poly A (deriv_series (coef A f)) (finite-times A _ _ (finite-tail A (coef A f) (finite A f)))

  pub deriv_of_zero : deriv (Poly A).zero ≡ (Poly A).zero
  unfolding Poly coef poly deriv deriv_series
  deriv_of_zero = poly_path A (λ i. mul-zero A _)
