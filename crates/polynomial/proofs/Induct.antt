-- Induction on polynomials: what holds of 0, and of k + X·f if of f, holds of every polynomial.
--   none               a polynomial that vanishes from 0 on is zero
--   bound-rest         the rest of f has a bound one less
--   induct_bound       induction up to a bound of f, for any property
--   induct             for a property that is a proposition, as an equation in a set is
use mathlib.Core.Path.{◌≡◌, sym, ◌∙◌, subst}
use mathlib.Core.Logic.{∥∥₁_elim}
use Prim.Native.Nat.{ℕ, zero, suc}
use native.Mathlib.Omega.{arith}
use Rattle.algebra.specs.Ring.{CommRing}
use Rattle.series.specs.Series.{Bound}
use Rattle.polynomial.specs.Poly.{Poly, coef, poly_path, const, X, finite}
use Rattle.polynomial.proofs.Coef.{rest, coef-zero, coef-rest, split}

module _ (A : CommRing) where
  open Poly A use {Car as Pol, zero as 𝟎, add as ◌+ₚ◌, mul as ◌·ₚ◌}

  infixl 60 ◌+ₚ◌
  infixl 70 ◌·ₚ◌
  pub none : (f : Pol) → Bound A (coef A f) zero → f ≡ 𝟎
  none f h = poly_path A (λ i. h i (omega arith) ∙ sym (coef-zero A i))

  pub bound-rest : (f : Pol) (n : ℕ) → Bound A (coef A f) (suc n) → Bound A (coef A (rest A f)) n
  bound-rest f n h i k = coef-rest A f i ∙ h (suc i) (omega arith)

  module _ (P : Pol → Type 0) (start : P 𝟎) (step : (k : A.Car) (f : Pol) → P f → P (const A k +ₚ X A ·ₚ f)) where
    pub induct_bound : (n : ℕ) (f : Pol) → Bound A (coef A f) n → P f
    induct_bound zero f h = subst P (sym (none f h)) start
    induct_bound (suc n) f h = subst P (sym (split A f)) (step (coef A f zero) (rest A f) (induct_bound n (rest A f) (bound-rest f n h)))

  pub induct : (P : Pol → Type 0) → ((f : Pol) → IsProp (P f)) → P 𝟎 → ((k : A.Car) (f : Pol) → P f → P (const A k +ₚ X A ·ₚ f)) → (f : Pol) → P f
  induct P prop start step f = ∥∥₁_elim (finite A f) (prop f) (λ b. induct_bound P start step b.0 f b.1)
