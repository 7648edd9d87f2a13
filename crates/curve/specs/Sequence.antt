-- Elements of the coordinate ring as sequences of coefficients indexed by pole numbers, 0 at the gaps. Example: x²·y + 5 has the coefficient 1
-- at 10, the coefficient 5 at 0, and 0 elsewhere. The code holds these sequences.
--   pick b u v         u if b is true, else v
--   coefficient n g    the coefficient of the normal monomial of pole number n in the normal form of g; 0 where there is none
--   vector f N h       the element with the coefficient f n at each pole number n; f vanishes from N on
--   twist m n          the lead's coefficient of mono m·mono n: −a0 if (m mod 3) + (n mod 3) ≥ 3, for then a y³ comes up, and else 1
use Rattle.std.specs.Prelude.{◌≡◌, Bool, true, false, ℕ, ◌+◌, ◌*◌, ◌%◌, ◌≤◌, leb}
use Rattle.std.proofs.Common.{arith}
use Rattle.algebra.specs.Ring.{CommRing}
use Rattle.polynomial.specs.Poly.{Poly, poly}
use Rattle.curve.specs.Cubic as Q
use Rattle.curve.specs.Curve.{Curve, t0, t1, t2, Coordinate, at}
use Rattle.curve.specs.Pole.{pole, x_power, y_power}

abbrev pub pick : {A : Type 0} → Bool → A → A → A
pick true a b = a
pick false a b = b

module _ {k : CommRing} (C : Curve k) where
  -- where 4·(n mod 3) is above n, the number n is a gap
  unfoldable pub coefficient : ℕ → (Coordinate C).Car → k.Car
  coefficient n g = pick (leb (4 * (y_power n)) n) (at C (x_power n) (y_power n) g) k.zero

  unfoldable pub vector : (f : ℕ → k.Car) (N : ℕ) → ((n : ℕ) → N ≤ n → f n ≡ k.zero) → (Coordinate C).Car
  unfolding Coordinate
  vector f N h =
      Q.triple (Poly k) (t0 C) (t1 C) (t2 C) (poly k (λ i. f (pole i 0)) ∣ (N, λ i b. h (pole i 0) (omega arith)) ∣₁)
      (poly k (λ i. f (pole i 1)) ∣ (N, λ i b. h (pole i 1) (omega arith)) ∣₁)
      (poly k (λ i. f (pole i 2)) ∣ (N, λ i b. h (pole i 2) (omega arith)) ∣₁)

  unfoldable pub twist : ℕ → ℕ → k.Car
  twist m n = pick (leb 3 (m % 3 + n % 3)) (k.neg C.a0) k.one
