-- A series that vanishes from some place on has one value.
--   horner-same        the sums up to two bounds are the same
--   value_prop         there is only one value
use mathlib.Core.Path.{◌≡◌, refl, sym, ◌∙◌, ap, ap₂}
use mathlib.Core.Logic.{∥∥₁_elim, ∥∥₁_prop}
use mathlib.Core.HLevel.{Σ_prop_path}
use Prim.Native.Nat.{ℕ, zero, suc}
use native.Mathlib.Omega.{arith}
use Rattle.algebra.specs.Ring.{CommRing}
use Rattle.algebra.specs.RingMap.{RingMap}
use Rattle.algebra.proofs.Laws.{mul-zero}
use Rattle.series.specs.Series.{Series, tail, Bound}
use Rattle.series.specs.Value.{horner, Value}
use Rattle.series.proofs.Bounds.{bound-tail}

module _ {A B : CommRing} (φ : RingMap A B) (b : B.Car) where
  horner-zero : (n : ℕ) (a : Series A) → Bound A a zero → horner φ b a n ≡ B.zero
  unfolding horner
  horner-zero zero a h = refl
  horner-zero (suc n) a h =
      ap₂ B.add (ap φ.map (h zero (omega arith)) ∙ φ.map_zero) (ap (B.mul b) (horner-zero n (tail A a) (λ i k. h (suc i) (omega arith))) ∙ mul-zero B b)
      ∙ B.add_zero B.zero

  pub horner-same : (m n : ℕ) (a : Series A) → Bound A a m → Bound A a n → horner φ b a m ≡ horner φ b a n
  unfolding horner
  horner-same zero n a p q = sym (horner-zero n a p)
  horner-same (suc m) zero a p q = horner-zero (suc m) a q
  horner-same (suc m) (suc n) a p q = ap (λ t. B.add (φ.map (a zero)) (B.mul b t)) (horner-same m n (tail A a) (bound-tail A a m p) (bound-tail A a n q))

  pub value_prop : (a : Series A) → IsProp (Value φ b a)
  value_prop a u v =
      Σ_prop_path (λ r. ∥∥₁_prop)
      (∥∥₁_elim u.1 (B.is_set _ _) (λ x. ∥∥₁_elim v.1 (B.is_set _ _) (λ y. x.1.1 ∙ horner-same x.0 y.0 a x.1.0 y.1.0 ∙ sym y.1.1)))
