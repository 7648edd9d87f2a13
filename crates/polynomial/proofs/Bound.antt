-- Over a ring with decidable equality a polynomial has a least bound.
--   LeastBound f       a bound of f's coefficients and that no other is less; there is only one
--   least D f          the least bound of f
--   bound D f          a bound of f
use mathlib.Core.Path.{◌≡◌, subst}
use mathlib.Core.Logic.{∥∥₁_elim, ◌⊎◌, inl, inr}
use mathlib.Core.HLevel.{Σ_prop_path, Π_prop, ×_prop}
use Prim.Native.Nat.{ℕ, zero, suc, ◌≤◌, ◌<◌}
use native.Mathlib.Bridge.{le_prop}
use native.Mathlib.Decide.{dec_le}
use native.Mathlib.Nat.{eq-or-lt_of_le}
use native.Mathlib.Omega.{arith}
use Rattle.algebra.specs.Ring.{CommRing}
use Rattle.series.specs.Series.{Bound}
use Rattle.polynomial.specs.Poly.{Poly, coef, finite}

module _ (A : CommRing) where
  open Poly A use {Car as Pol, zero as 𝟎, add as ◌+ₚ◌, neg as -ₚ◌}

  infixl 60 ◌+ₚ◌
  infix 80 -ₚ◌
  abbrev pub LeastBound : Pol → Type 0
  LeastBound f = (n : ℕ) × (Bound A (coef A f) n × ((m : ℕ) → Bound A (coef A f) m → n ≤ m))

  least_prop : (f : Pol) → IsProp (LeastBound f)
  least_prop f u v =
      Σ_prop_path (λ n. ×_prop (Π_prop (λ i. Π_prop (λ h. A.is_set _ _))) (Π_prop (λ m. Π_prop (λ h. le_prop))))
      (let p : u.0 ≤ v.0 = u.1.1 v.0 v.1.0 in let q : v.0 ≤ u.0 = v.1.1 u.0 u.1.0 in omega arith)

  module _ (D : Discrete A.Car) where
    least-from : (f : Pol) (n : ℕ) → Bound A (coef A f) n → LeastBound f
    least-from f zero h = (zero, (h, λ m k. omega arith))
    least-from f (suc n) h = go (D (coef A f n) A.zero) (least-from f n)
      where
        go : Dec (coef A f n ≡ A.zero) → (Bound A (coef A f) n → LeastBound f) → LeastBound f
        go (yes e) less = less (λ i k. at_n i (eq-or-lt_of_le k))
          where
            at_n : (i : ℕ) → (n ≡ i) ⊎ (n < i) → coef A f i ≡ A.zero
            at_n i (inl p) = subst (λ j. coef A f j ≡ A.zero) p e
            at_n i (inr l) = h i l
        go (no u) less = (suc n, (h, λ m k. above m k (dec_le (suc n) m)))
          where
            above : (m : ℕ) → Bound A (coef A f) m → Dec (suc n ≤ m) → suc n ≤ m
            above m k (yes l) = l
            above m k (no l) = absurd (u (k n (omega arith)))

    pub least : (f : Pol) → LeastBound f
    least f = ∥∥₁_elim (finite A f) (least_prop f) (λ x. least-from f x.0 x.1)

    pub bound : (f : Pol) → (n : ℕ) × Bound A (coef A f) n
    bound f = ((least f).0, (least f).1.0)
