-- Ring maps.
--   RingMap A B        a map from A to B that keeps 0, 1, sums and products; φ.map a is its value at a
use Rattle.std.specs.Prelude.{◌≡◌}
use Rattle.algebra.specs.Ring.{CommRing}

pub record RingMap (A B : CommRing) : Type 0 where
  pub map : A.Car → B.Car
  pub map_zero : map A.zero ≡ B.zero
  pub map_one : map A.one ≡ B.one
  pub map_add : (a b : A.Car) → map (A.add a b) ≡ B.add (map a) (map b)
  pub map_mul : (a b : A.Car) → map (A.mul a b) ≡ B.mul (map a) (map b)
