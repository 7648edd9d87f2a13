-- The coordinate ring as the ring of all polynomials in x and y modulo F: each polynomial has a normal form, and a polynomial has the
-- normal form 0 exactly if it is a multiple of F (proofs/Quotient).
--   of_parts a b c     the element a + b·y + c·y², for polynomials a, b and c in x
--   over_x C           k[x] as a subring of the coordinate ring
--   normal C           the ring map that takes a polynomial in x and y to its normal form: its value at y, over k[x]
use Rattle.algebra.specs.Ring.{CommRing}
use Rattle.polynomial.specs.Poly.{Poly}
use Rattle.polynomial.specs.Plane.{Plane}
use Rattle.algebra.specs.RingMap.{RingMap}
use Rattle.polynomial.specs.Eval.{eval}
use Rattle.polynomial.proofs.Eval.{eval-zero, eval-one, eval_add, eval_mul}
use Rattle.curve.specs.Curve.{Curve, t0, t1, t2, Coordinate, in_x, y}
use Rattle.curve.specs.Cubic.{triple}
use Rattle.curve.proofs.Coefficient.{in_x-zero, in_x-one, in_x-add, in_x-mul}

module _ {k : CommRing} (C : Curve k) where
  unfoldable pub of_parts : (Poly k).Car → (Poly k).Car → (Poly k).Car → (Coordinate C).Car
  unfolding Coordinate
  of_parts a b c = triple (Poly k) (t0 C) (t1 C) (t2 C) a b c

  abbrev pub over_x : RingMap (Poly k) (Coordinate C)
  over_x = record { map = in_x C; map_zero = in_x-zero C; map_one = in_x-one C; map_add = in_x-add C; map_mul = in_x-mul C }

  abbrev pub normal : RingMap (Plane k) (Coordinate C)
  normal =
      record {
        map = eval over_x (y C);
        map_zero = eval-zero over_x (y C);
        map_one = eval-one over_x (y C);
        map_add = eval_add over_x (y C);
        map_mul = eval_mul over_x (y C);
      }
