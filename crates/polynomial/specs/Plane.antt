-- Polynomials in two variables x and y over a commutative ring k: polynomials in y over k[x].
--   Plane k            the ring k[x, y]
--   scalar k a         the constant a of k
--   x k, y k           the variables
--   each A h z f       h applied to each coefficient of f, for a map h that takes 0 to 0
--   by_x k f, by_y k f the derivatives of f by x and by y
use Rattle.std.specs.Prelude.{◌≡◌}
use Rattle.algebra.specs.Ring.{CommRing}
use Rattle.series.proofs.Bounds.{finite-each}
use Rattle.polynomial.specs.Poly.{Poly, coef, poly, const, X, finite}
use Rattle.polynomial.specs.Deriv.{deriv, deriv_of_zero}

module _ (A : CommRing) (h : A.Car → A.Car) (z : h A.zero ≡ A.zero) where
  unfoldable pub each : (Poly A).Car → (Poly A).Car
  each f = poly A (λ i. h (coef A f i)) (finite-each A h z (coef A f) (finite A f))

module _ (k : CommRing) where
  abbrev pub Plane : CommRing
  Plane = Poly (Poly k)

  abbrev pub scalar : k.Car → Plane.Car
  scalar a = const (Poly k) (const k a)

  abbrev pub x : Plane.Car
  x = const (Poly k) (X k)

  abbrev pub y : Plane.Car
  y = X (Poly k)

  unfoldable pub by_x : Plane.Car → Plane.Car
  by_x = each (Poly k) (deriv k) (deriv_of_zero k)

  abbrev pub by_y : Plane.Car → Plane.Car
  by_y = deriv (Poly k)
