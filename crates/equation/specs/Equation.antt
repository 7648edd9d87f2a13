-- Curves by the numbers of their coefficients, and what the functions on them require and ensure.
--   curve_of e             the curve with the residues of the coefficients
--   Coefficients e         the coefficients are below p
--   IsCube e r             r is the vector of y³
--   DerivativeAsked        the coefficients are below p, a prime
--   DerivativeX, DerivativeY       … of the normal forms of Fx and Fy
--   TestAsked              nonsingular: what the test requires
use Rattle.std.specs.Prelude.{◌≡◌, List, ℕ, ◌<◌}
use Rattle.prime.specs.Prime.{Prime}
use Rattle.field.specs.Residue.{Z, el}
use Rattle.curve.specs.Curve.{Curve}
use Rattle.nonsingular.specs.Derivative.{derivative_x, derivative_y}
use Rattle.vector.specs.Vector.{Vec, Top, element}
use Rattle.multiplication.specs.Contract.{Cube}
use Rattle.equation.specs.declared.Equation.{Equation}

abbrev pub curve_of : (e : Equation) → Curve (Z e.p)
curve_of e =
    record {
      a0 = el e.p e.a0;
      c0 = el e.p e.c0;
      c1 = el e.p e.c1;
      c2 = el e.p e.c2;
      c3 = el e.p e.c3;
      c4 = el e.p e.c4;
      c5 = el e.p e.c5;
      c6 = el e.p e.c6;
      c7 = el e.p e.c7;
      c8 = el e.p e.c8;
    }

pub record Coefficients (e : Equation) : Type 0 where
  pub below_a0 : e.a0 < e.p
  pub below_c0 : e.c0 < e.p
  pub below_c1 : e.c1 < e.p
  pub below_c2 : e.c2 < e.p
  pub below_c3 : e.c3 < e.p
  pub below_c4 : e.c4 < e.p
  pub below_c5 : e.c5 < e.p
  pub below_c6 : e.c6 < e.p
  pub below_c7 : e.c7 < e.p
  pub below_c8 : e.c8 < e.p

pub record IsCube (e : Equation) (r : List ℕ) : Type 0 where
  pub vec : Vec e.p r
  pub top : Top r 13
  pub cube : Cube e.p (curve_of e) r

pub record DerivativeAsked (e : Equation) : Type 0 where
  pub prime : Prime e.p
  pub coefficients : Coefficients e

pub record DerivativeX (e : Equation) (r : List ℕ) : Type 0 where
  pub vec : Vec e.p r
  pub top : Top r 10
  pub value : element e.p (curve_of e) r ≡ derivative_x (curve_of e)

pub record DerivativeY (e : Equation) (r : List ℕ) : Type 0 where
  pub vec : Vec e.p r
  pub top : Top r 9
  pub value : element e.p (curve_of e) r ≡ derivative_y (curve_of e)

-- the coefficient of x⁴ is not 0
pub record TestAsked (e : Equation) (y3 : List ℕ) : Type 0 where
  pub prime : Prime e.p
  pub coefficients : Coefficients e
  pub nonzero : ¬ ((curve_of e).a0 ≡ (Z e.p).zero)
  pub is_cube : IsCube e y3
