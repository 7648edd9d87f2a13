-- A C34 curve over a commutative ring k and its coordinate ring: all polynomials in x and y modulo F, each with its one normal form with y to
-- the power 0, 1 or 2. With F = y³ + t2·y² + t1·y + t0 over k[x] that is the ring of triples of polynomials in x modulo a monic cubic.
--   Curve k            the coefficients of F = y³ + a0·x⁴ + c8·xy² + c7·x²y + c6·x³ + c5·y² + c4·xy + c3·x² + c2·y + c1·x + c0
--   ascending cs       the polynomial in x with the coefficients cs, the constant one first
--   t0, t1, t2         F's coefficients at y⁰, y¹, y²
--   Coordinate C       the coordinate ring
--   x, y, constant c   the elements x, y and c; in_x f: a polynomial in x as an element
--   part j g           the coefficient of y^j in the normal form of g, a polynomial in x
--   at i j g           the coefficient of x^i·y^j in the normal form of g; 0 for j above 2
use Rattle.std.specs.Prelude.{List, [], ◌∷◌, ℕ}
use Rattle.algebra.specs.Ring.{CommRing}
use Rattle.polynomial.specs.Poly.{Poly, coef, const, X}
use Rattle.curve.specs.Cubic as Q

-- Document 01 has a0 = 1; the theory of pole numbers uses only that k is a field and a0 ≢ 0.
pub record Curve (k : CommRing) : Type 0 where
  pub a0 : k.Car
  pub c0 : k.Car
  pub c1 : k.Car
  pub c2 : k.Car
  pub c3 : k.Car
  pub c4 : k.Car
  pub c5 : k.Car
  pub c6 : k.Car
  pub c7 : k.Car
  pub c8 : k.Car

unfoldable pub ascending : (A : CommRing) → List A.Car → (Poly A).Car
ascending A [] = (Poly A).zero
ascending A (c ∷ cs) = (Poly A).add (const A c) ((Poly A).mul (X A) (ascending A cs))

module _ {k : CommRing} (C : Curve k) where
  -- a0·x⁴ + c6·x³ + c3·x² + c1·x + c0
  unfoldable pub t0 : (Poly k).Car
  t0 = ascending k (C.c0 ∷ C.c1 ∷ C.c3 ∷ C.c6 ∷ C.a0 ∷ [])

  -- c7·x² + c4·x + c2
  unfoldable pub t1 : (Poly k).Car
  t1 = ascending k (C.c2 ∷ C.c4 ∷ C.c7 ∷ [])

  -- c8·x + c5
  unfoldable pub t2 : (Poly k).Car
  t2 = ascending k (C.c5 ∷ C.c8 ∷ [])

  unfoldable pub Coordinate : CommRing
  Coordinate = Q.Cubic (Poly k) t0 t1 t2

  unfoldable pub y : Coordinate.Car
  unfolding Coordinate
  y = Q.y (Poly k) t0 t1 t2

  unfoldable pub in_x : (Poly k).Car → Coordinate.Car
  unfolding Coordinate
  in_x f = Q.embed (Poly k) t0 t1 t2 f

  unfoldable pub x : Coordinate.Car
  x = in_x (X k)

  unfoldable pub constant : k.Car → Coordinate.Car
  constant c = in_x (const k c)

  unfoldable pub part : ℕ → Coordinate.Car → (Poly k).Car
  unfolding Coordinate
  part j g = Q.component (Poly k) t0 t1 t2 j g

  unfoldable pub at : ℕ → ℕ → Coordinate.Car → k.Car
  at i j g = coef k (part j g) i
