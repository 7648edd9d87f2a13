-- Evaluation of a polynomial over A at an element b of B, along a ring map φ from A to B.
--   value φ b f, eval φ b f    the value of the polynomial f
use Rattle.std.specs.Prelude.{refl}
use Rattle.std.proofs.Math.Logic.{∥∥₁_elim}
use Rattle.algebra.specs.Ring.{CommRing}
use Rattle.algebra.specs.RingMap.{RingMap}
use Rattle.series.specs.Value.{horner, Value}
use Rattle.series.proofs.Value.{value_prop}
use Rattle.polynomial.specs.Poly.{Poly, coef, finite}

module _ {A B : CommRing} (φ : RingMap A B) (b : B.Car) where
  pub value : (f : (Poly A).Car) → Value φ b (coef A f)
  value f = ∥∥₁_elim (finite A f) (value_prop φ b (coef A f)) (λ x. (horner φ b (coef A f) x.0, ∣ (x.0, (x.1, refl)) ∣₁))

  unfoldable pub eval : (Poly A).Car → B.Car
  eval f = (value f).0
