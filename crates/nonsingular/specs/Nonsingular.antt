-- Nonsingular curves.
--   Nonsingular C      r·F + s·Fx + t·Fy = 1 for some polynomials r, s, t in x and y
use Rattle.std.specs.Prelude.{◌≡◌}
use Rattle.algebra.specs.Ring.{CommRing}
use Rattle.polynomial.specs.Plane.{Plane}
use Rattle.curve.specs.Curve.{Curve}
use Rattle.nonsingular.specs.Equation.{F, Fx, Fy}

module _ {k : CommRing} (C : Curve k) where
  open Plane k use {Car, one as 𝟙, add as ◌⊕◌, mul as ◌⊗◌}

  infixl 60 ◌⊕◌
  infixl 70 ◌⊗◌
  -- Document 01: "The curve is nonsingular if some polynomials r, s, t in x and y over the field, not taken modulo F, give
  -- r·F + s·Fx + t·Fy = 1, where Fx and Fy are the formal derivatives."
  abbrev pub Nonsingular : Type 0
  Nonsingular = (r s t : Car) × (r ⊗ F C ⊕ s ⊗ Fx C ⊕ t ⊗ Fy C ≡ 𝟙)
