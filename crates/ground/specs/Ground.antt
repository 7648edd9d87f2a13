-- The ground of a curve by value: what holds of it, and what its maker requires and ensures.
--   UnitOf p k C           k is the inverse of −a0
--   Grounded g             g is the ground of some curve with a0 ≢ 0 over the field of p elements, p below 2^31, and divides by p
--   AtGround g X           X holds of p and of every curve of which g is the ground
--   GroundAsked e          the coefficients are below p, and a0 is 1
--   GroundOf e g           of: g is the ground of the curve e
use Rattle.std.specs.Prelude.{◌≡◌, ℕ, ◌<◌}
use Rattle.field.specs.Residue.{Z, el}
use Rattle.curve.specs.Curve.{Curve}
use Rattle.triple.specs.Setting.{Ready}
use Rattle.equation.specs.Equation.{curve_of, Coefficients, IsCube}
use Rattle.equation.specs.declared.Equation.{Equation}
use Rattle.ground.specs.declared.Ground.{Ground}

pub record UnitOf (p k : ℕ) (C : Curve (Z p)) : Type 0 where
  pub below : k < p
  pub inverse : (Z p).mul (el p k) ((Z p).neg C.a0) ≡ (Z p).one

pub record Grounded (g : Ground) : Type 0 where
  pub small : g.p < 2147483648
  pub divides : g.by.p ≡ g.p
  pub ready : Ready g.p g.cube
  pub unit_is : UnitOf g.p g.unit ready.setting.curve

abbrev pub AtGround : (g : Ground) → ((p : ℕ) → Curve (Z p) → Type 0) → Type 0
AtGround g X = (G : Grounded g) → X g.p G.ready.setting.curve

pub record GroundAsked (e : Equation) : Type 0 where
  pub coefficients : Coefficients e
  pub one : e.a0 ≡ 1

pub record GroundOf (e : Equation) (g : Ground) : Type 0 where
  pub modulus : g.p ≡ e.p
  pub divides : g.by.p ≡ e.p
  pub unit_is : UnitOf e.p g.unit (curve_of e)
  pub cube_is : IsCube e g.cube
