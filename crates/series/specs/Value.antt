-- The value of a series over A at an element b of B, along a ring map φ from A to B.
--   horner φ b a n     φ(a₀) + b·(φ(a₁) + b·( … φ(aₙ₋₁))): the sum of φ(aᵢ)·bⁱ for i below n
--   Value φ b a        the sum of the whole series, if a vanishes from some place on
use Rattle.std.specs.Prelude.{◌≡◌, ℕ, zero, suc}
use Rattle.algebra.specs.Ring.{CommRing}
use Rattle.algebra.specs.RingMap.{RingMap}
use Rattle.series.specs.Series.{Series, tail, Bound}

module _ {A B : CommRing} (φ : RingMap A B) (b : B.Car) where
  unfoldable pub horner : Series A → ℕ → B.Car
  horner a zero = B.zero
  horner a (suc n) = B.add (φ.map (a zero)) (B.mul b (horner (tail A a) n))

  abbrev pub Value : Series A → Type 0
  Value a = (r : B.Car) × ∥ ((n : ℕ) × (Bound A a n × (r ≡ horner a n))) ∥₁
