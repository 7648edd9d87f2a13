-- The value of a polynomial in x and y at a point.
--   identity k         the ring map that keeps each element
--   at_x k a           the value at x = a of polynomials in x, a ring map
--   value_at k a b f   the value at x = a and y = b of the polynomial f in x and y
use Rattle.std.specs.Prelude.{refl}
use Rattle.algebra.specs.Ring.{CommRing}
use Rattle.algebra.specs.RingMap.{RingMap}
use Rattle.polynomial.specs.Poly.{Poly}
use Rattle.polynomial.specs.Plane.{Plane}
use Rattle.polynomial.specs.Eval.{eval}
use Rattle.polynomial.proofs.Eval.{eval-zero, eval-one, eval_add, eval_mul}

module _ (k : CommRing) where
  abbrev pub identity : RingMap k k
  identity = record { map = λ a. a; map_zero = refl; map_one = refl; map_add = λ a b. refl; map_mul = λ a b. refl }

  abbrev pub at_x : k.Car → RingMap (Poly k) k
  at_x a =
      record {
        map = eval identity a;
        map_zero = eval-zero identity a;
        map_one = eval-one identity a;
        map_add = eval_add identity a;
        map_mul = eval_mul identity a;
      }

  abbrev pub value_at : (a b : k.Car) → (Plane k).Car → k.Car
  value_at a b f = eval (at_x a) b f
