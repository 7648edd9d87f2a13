-- The first normal monomials by name.
--   mono-one mono-x mono-y mono_xx mono_xy mono_yy      the normal monomials of pole numbers 0, 3, 4, 6, 7, 8 are 1, x, y, x², xy, y²
use mathlib.Core.Path.{◌≡◌, ◌∙◌, ap, ap₂}
use Rattle.algebra.specs.Ring.{CommRing}
use Rattle.algebra.proofs.Laws as L
use Rattle.curve.specs.Curve.{Curve, Coordinate, x, y}
use Rattle.curve.specs.Monomial.{power, monomial, mono}

module _ {k : CommRing} (C : Curve k) where
  open Coordinate C use {one as 𝟏, mul as ◌⊗◌}

  infixl 70 ◌⊗◌
  pub mono-one : mono C 0 ≡ 𝟏
  unfolding power monomial mono
  mono-one = (Coordinate C).mul_one 𝟏

  pub mono-x : mono C 3 ≡ x C
  unfolding power monomial mono
  mono-x = (Coordinate C).mul_one (x C ⊗ 𝟏) ∙ (Coordinate C).mul_one (x C)

  pub mono-y : mono C 4 ≡ y C
  unfolding power monomial mono
  mono-y = L.one-mul (Coordinate C) (y C ⊗ 𝟏) ∙ (Coordinate C).mul_one (y C)

  pub mono_xx : mono C 6 ≡ x C ⊗ x C
  unfolding power monomial mono
  mono_xx = (Coordinate C).mul_one (x C ⊗ (x C ⊗ 𝟏)) ∙ ap (λ u. x C ⊗ u) ((Coordinate C).mul_one (x C))

  pub mono_xy : mono C 7 ≡ x C ⊗ y C
  unfolding power monomial mono
  mono_xy = ap₂ ◌⊗◌ ((Coordinate C).mul_one (x C)) ((Coordinate C).mul_one (y C))

  pub mono_yy : mono C 8 ≡ y C ⊗ y C
  unfolding power monomial mono
  mono_yy = L.one-mul (Coordinate C) (y C ⊗ (y C ⊗ 𝟏)) ∙ ap (λ u. y C ⊗ u) ((Coordinate C).mul_one (y C))
