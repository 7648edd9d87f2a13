-- Normal monomials by pole number, and elements whose monomials have pole numbers below n.
--   power R a n        aⁿ
--   monomial i j       x^i·y^j
--   mono n             the normal monomial of pole number n, where there is one
--   Below n g          every monomial of g has a pole number below n
use Rattle.std.specs.Prelude.{◌≡◌, ℕ, zero, suc, ◌≤◌}
use Rattle.algebra.specs.Ring.{CommRing}
use Rattle.curve.specs.Curve.{Curve, Coordinate, x, y, at}
use Rattle.curve.specs.Pole.{pole, x_power, y_power}

unfoldable pub power : (R : CommRing) → R.Car → ℕ → R.Car
power R a zero = R.one
power R a (suc n) = R.mul a (power R a n)

module _ {k : CommRing} (C : Curve k) where
  unfoldable pub monomial : ℕ → ℕ → (Coordinate C).Car
  monomial i j = (Coordinate C).mul (power (Coordinate C) (x C) i) (power (Coordinate C) (y C) j)

  unfoldable pub mono : ℕ → (Coordinate C).Car
  mono n = monomial (x_power n) (y_power n)

  -- Below 0 g: g is zero. Below (n + 1) g and not Below n g: the lead of g has the pole number n.
  pub record Below (n : ℕ) (g : (Coordinate C).Car) : Type 0 where
    pub vanish : (i j : ℕ) → j ≤ 2 → n ≤ pole i j → at C i j g ≡ k.zero
