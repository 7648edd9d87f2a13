-- The ground of the arithmetic: a prime p, a curve over the field of p elements with a0 ≢ 0, and the vector of y³.
--   Setting p          a prime p and a curve over the residues modulo p with a0 ≢ 0
--   ring S, poles_of S the curve's coordinate ring and its pole numbers
--   Ready p y3         a setting whose y³ is the vector y3
use Rattle.std.specs.Prelude.{◌≡◌, List, ℕ}
use Rattle.algebra.specs.Ring.{CommRing}
use Rattle.prime.specs.Prime.{Prime}
use Rattle.field.specs.Residue.{Z}
use Rattle.prime_field.specs.Field.{F}
use Rattle.ideal.specs.Poles.{Poles}
use Rattle.curve.specs.Curve.{Curve, Coordinate}
use Rattle.poles.specs.Poles.{poles}
use Rattle.vector.specs.Vector.{Vec, Top}
use Rattle.multiplication.specs.Contract.{Cube}

pub record Setting (p : ℕ) : Type 0 where
  pub prime : Prime p
  pub curve : Curve (Z p)
  pub nonzero : ¬ (curve.a0 ≡ (Z p).zero)

abbrev pub ring : {p : ℕ} → Setting p → CommRing
ring S = Coordinate S.curve

abbrev pub poles_of : {p : ℕ} (S : Setting p) → Poles (ring S)
poles_of {p} S = poles (F p S.prime) S.curve S.nonzero

pub record Ready (p : ℕ) (y3 : List ℕ) : Type 0 where
  pub setting : Setting p
  pub y3_vec : Vec p y3
  pub y3_top : Top y3 13
  pub cube : Cube p setting.curve y3
