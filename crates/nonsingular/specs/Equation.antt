-- The equation of a C34 curve as a polynomial in two variables, and its formal derivatives.
--   F C            y³ + a0·x⁴ + c8·xy² + c7·x²y + c6·x³ + c5·y² + c4·xy + c3·x² + c2·y + c1·x + c0
--   Fx C, Fy C     the derivatives of F by x and by y
use Rattle.algebra.specs.Ring.{CommRing}
use Rattle.polynomial.specs.Plane.{Plane, scalar, x, y, by_x, by_y}
use Rattle.curve.specs.Curve.{Curve}

module _ {k : CommRing} (C : Curve k) where
  open Plane k use {Car, add as ◌⊕◌, mul as ◌⊗◌}

  infixl 60 ◌⊕◌
  infixl 70 ◌⊗◌ ◌·◌
  abbrev 𝕩 : Car
  𝕩 = x k

  abbrev 𝕪 : Car
  𝕪 = y k

  -- a constant times a polynomial
  abbrev ◌·◌ : k.Car → Car → Car
  c · f = scalar k c ⊗ f

  -- Document 01, "Ground and notation", with the factor a0 before x⁴.
  unfoldable pub F : Car
  F =
      𝕪 ⊗ 𝕪 ⊗ 𝕪
      ⊕ C.a0 · (𝕩 ⊗ 𝕩 ⊗ 𝕩 ⊗ 𝕩)
      ⊕ C.c8 · (𝕩 ⊗ 𝕪 ⊗ 𝕪)
      ⊕ C.c7 · (𝕩 ⊗ 𝕩 ⊗ 𝕪)
      ⊕ C.c6 · (𝕩 ⊗ 𝕩 ⊗ 𝕩)
      ⊕ C.c5 · (𝕪 ⊗ 𝕪)
      ⊕ C.c4 · (𝕩 ⊗ 𝕪)
      ⊕ C.c3 · (𝕩 ⊗ 𝕩)
      ⊕ C.c2 · 𝕪
      ⊕ C.c1 · 𝕩
      ⊕ scalar k C.c0

  abbrev pub Fx : Car
  Fx = by_x k F

  abbrev pub Fy : Car
  Fy = by_y k F
