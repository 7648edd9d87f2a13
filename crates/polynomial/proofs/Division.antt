-- Division by a monic cubic in A[Y]: quotient and rest exist and there is only one of each.
--   Parts A                  a quotient and the three coefficients of a rest
--   Divided A t0 t1 t2 f     parts with f = quotient·(the cubic) + rest
--   rest-zero                if q·F + (a0 + a1·Y + a2·Y²) is zero, then q, a0, a1 and a2 are
--   divide_unique            quotient and rest are determined
--   divided_prop             Divided is a proposition
--   divide                   every polynomial is q·F + (a0 + a1·Y + a2·Y²)
use mathlib.Core.Path.{◌≡◌, sym, ◌∙◌, ap, ap₂, subst}
use mathlib.Core.Logic.{∥∥₁_elim, ◌⊎◌, inl, inr}
use mathlib.Core.HLevel.{Σ_prop_path}
use Prim.Native.Nat.{ℕ, zero, suc, ◌<◌}
use native.Mathlib.Nat.{eq-or-lt_of_le}
use native.Mathlib.Omega.{arith}
use Rattle.algebra.specs.Ring.{CommRing}
use Rattle.algebra.proofs.Laws.{zero-add, zero-mul, sub-zero→eq, eq→sub-zero}
use Rattle.algebra.proofs.Norm.{nil}
use Rattle.algebra.proofs.Solve.{◌⊞◌, ◌⊠◌, ⊟◌, solve}
use Rattle.series.specs.Series.{Bound}
use Rattle.polynomial.specs.Poly.{Poly, coef, const, X, finite}
use Rattle.polynomial.proofs.Cubic.{cubic, quadratic, coef_quadratic_0, coef_quadratic_1, coef_quadratic_2, coef_quadratic_from, quadratic_zero, quadratic_sub, const-less, coef-cubic-mul}
use Rattle.polynomial.proofs.Coef.{coef-zero, coef-add}
use Rattle.polynomial.proofs.Induct.{induct, none}

module _ (A : CommRing) where
  open Poly A use {Car as Pol, add as ◌+ₚ◌, mul as ◌·ₚ◌}

  infixl 60 ◌+ₚ◌
  infixl 70 ◌·ₚ◌
  pub record Parts : Type 0 where
    pub quotient : Pol
    pub c0 : A.Car
    pub c1 : A.Car
    pub c2 : A.Car

  abbrev pub Divided : A.Car → A.Car → A.Car → Pol → Type 0
  Divided t0 t1 t2 f = (d : Parts) × (f ≡ d.quotient ·ₚ cubic A t0 t1 t2 +ₚ quadratic A d.c0 d.c1 d.c2)

module _ (A : CommRing) where
  open A use {Car, zero as 𝟘, add as ◌⊕◌, mul as ◌⊗◌, neg as ⊖◌, add_zero}
  open Poly A use {Car as Pol, zero as 𝟎, add as ◌+ₚ◌, mul as ◌·ₚ◌, neg as -ₚ◌}

  infixl 60 ◌⊕◌ ◌+ₚ◌
  infixl 70 ◌⊗◌ ◌·ₚ◌
  infix 80 ⊖◌ -ₚ◌
  module _ (t0 t1 t2 : Car) where
    -- The coefficients of q from n on are zero by induction on n downwards: at n + 3 the product has qₙ and multiples of later ones.
    quotient-zero : (q : Pol) → ((i : ℕ) → coef A (q ·ₚ cubic A t0 t1 t2) (suc (suc (suc i))) ≡ 𝟘) → q ≡ 𝟎
    quotient-zero q e = ∥∥₁_elim (finite A q) ((Poly A).is_set _ _) (λ x. go x.0 x.1)
      where
        top : (n : ℕ) → Bound A (coef A q) (suc n) → coef A q n ≡ 𝟘
        top n h =
            sym (ap (λ t. coef A q n ⊕ t2 ⊗ t ⊕ t1 ⊗ coef A q (suc (suc n)) ⊕ t0 ⊗ coef A q (suc (suc (suc n)))) (h (suc n) (omega arith))
            ∙ ap₂ (λ t u. coef A q n ⊕ t2 ⊗ 𝟘 ⊕ t1 ⊗ t ⊕ t0 ⊗ u) (h (suc (suc n)) (omega arith)) (h (suc (suc (suc n))) (omega arith))
            ∙ solve A 4 (λ a t0 t1 t2. a ⊞ t2 ⊠ nil ⊞ t1 ⊠ nil ⊞ t0 ⊠ nil) (λ a t0 t1 t2. a) tt (coef A q n) t0 t1 t2)
            ∙ sym (coef-cubic-mul A t0 t1 t2 q n) ∙ e n

        lower : (n : ℕ) → Bound A (coef A q) (suc n) → (i : ℕ) → (n ≡ i) ⊎ (n < i) → coef A q i ≡ 𝟘
        lower n h i (inl p) = subst (λ j. coef A q j ≡ 𝟘) p (top n h)
        lower n h i (inr l) = h i l

        go : (n : ℕ) → Bound A (coef A q) n → q ≡ 𝟎
        go zero h = none A q h
        go (suc n) h = go n (λ i k. lower n h i (eq-or-lt_of_le k))

    pub rest-zero : (q : Pol) (a0 a1 a2 : Car) → q ·ₚ cubic A t0 t1 t2 +ₚ quadratic A a0 a1 a2 ≡ 𝟎 → (q ≡ 𝟎) × (a0 ≡ 𝟘) × (a1 ≡ 𝟘) × (a2 ≡ 𝟘)
    rest-zero q a0 a1 a2 e = (q-zero, sym (coef_quadratic_0 A a0 a1 a2) ∙ at 0, sym (coef_quadratic_1 A a0 a1 a2) ∙ at 1, sym (coef_quadratic_2 A a0 a1 a2) ∙ at 2)
      where
        q-zero : q ≡ 𝟎
        q-zero =
            quotient-zero q (λ i. sym (add_zero _)
            ∙ ap (λ t. coef A (q ·ₚ cubic A t0 t1 t2) (suc (suc (suc i))) ⊕ t) (sym (coef_quadratic_from A a0 a1 a2 i)) ∙ sym (coef-add A _ _ _)
            ∙ ap (λ f. coef A f (suc (suc (suc i)))) e ∙ coef-zero A _)

        rest : quadratic A a0 a1 a2 ≡ 𝟎
        rest = sym (zero-add (Poly A) _) ∙ ap (λ z. z +ₚ quadratic A a0 a1 a2) (sym (zero-mul (Poly A) (cubic A t0 t1 t2)) ∙ ap (λ z. z ·ₚ cubic A t0 t1 t2) (sym q-zero)) ∙ e

        at : (i : ℕ) → coef A (quadratic A a0 a1 a2) i ≡ 𝟘
        at i = ap (λ f. coef A f i) rest ∙ coef-zero A i

    -- Two divisions of one polynomial differ by a division of zero.
    pub divide_unique : (q r : Pol) (a0 a1 a2 b0 b1 b2 : Car) → q ·ₚ cubic A t0 t1 t2 +ₚ quadratic A a0 a1 a2
        ≡ r ·ₚ cubic A t0 t1 t2 +ₚ quadratic A b0 b1 b2 → (q ≡ r) × (a0 ≡ b0) × (a1 ≡ b1) × (a2 ≡ b2)
    divide_unique q r a0 a1 a2 b0 b1 b2 e = (sub-zero→eq (Poly A) q r z.0, sub-zero→eq A a0 b0 z.1, sub-zero→eq A a1 b1 z.2, sub-zero→eq A a2 b2 z.3)
      where
        difference : (q +ₚ -ₚ r) ·ₚ cubic A t0 t1 t2 +ₚ quadratic A (a0 ⊕ ⊖ b0) (a1 ⊕ ⊖ b1) (a2 ⊕ ⊖ b2)
            ≡ (q ·ₚ cubic A t0 t1 t2 +ₚ quadratic A a0 a1 a2) +ₚ -ₚ (r ·ₚ cubic A t0 t1 t2 +ₚ quadratic A b0 b1 b2)
        difference =
            ap (λ u. (q +ₚ -ₚ r) ·ₚ cubic A t0 t1 t2 +ₚ u) (quadratic_sub A a0 a1 a2 b0 b1 b2)
            ∙ solve (Poly A) 5 (λ q r f u v. (q ⊞ ⊟ r) ⊠ f ⊞ (u ⊞ ⊟ v)) (λ q r f u v. (q ⊠ f ⊞ u) ⊞ ⊟ (r ⊠ f ⊞ v)) tt q r (cubic A t0 t1 t2) (quadratic A a0 a1 a2) (quadratic A b0 b1 b2)

        z : (q +ₚ -ₚ r ≡ 𝟎) × (a0 ⊕ ⊖ b0 ≡ 𝟘) × (a1 ⊕ ⊖ b1 ≡ 𝟘) × (a2 ⊕ ⊖ b2 ≡ 𝟘)
        z = rest-zero (q +ₚ -ₚ r) (a0 ⊕ ⊖ b0) (a1 ⊕ ⊖ b1) (a2 ⊕ ⊖ b2) (difference ∙ eq→sub-zero (Poly A) _ _ e)

    pub divided_prop : (f : Pol) → IsProp (Divided A t0 t1 t2 f)
    divided_prop f d e =
        let u = divide_unique d.0.quotient e.0.quotient d.0.c0 d.0.c1 d.0.c2 e.0.c0 e.0.c1 e.0.c2 (sym d.1 ∙ e.1) in
        Σ_prop_path (λ p. (Poly A).is_set _ _) (λ i. record { quotient = u.0 i; c0 = u.1 i; c1 = u.2 i; c2 = u.3 i })

    -- Division of k + Y·f from that of f: Y·(a2·Y²) is a2·F less a2·(t2·Y² + t1·Y + t0).
    divide_step : (k : Car) (f : Pol) → Divided A t0 t1 t2 f → Divided A t0 t1 t2 (const A k +ₚ X A ·ₚ f)
    unfolding cubic quadratic
    divide_step k f (d, e) = (
      record { quotient = X A ·ₚ d.quotient +ₚ const A d.c2; c0 = k ⊕ ⊖ (d.c2 ⊗ t0); c1 = d.c0 ⊕ ⊖ (d.c2 ⊗ t1); c2 = d.c1 ⊕ ⊖ (d.c2 ⊗ t2) },
      ap (λ g. const A k +ₚ X A ·ₚ g) e
          ∙ solve (Poly A) 9 (λ k y q a b c t0 t1 t2. k ⊞ y ⊠ (q ⊠ (y ⊠ y ⊠ y ⊞ t2 ⊠ (y ⊠ y) ⊞ t1 ⊠ y ⊞ t0) ⊞ (a ⊞ b ⊠ y ⊞ c ⊠ (y ⊠ y))))
          (λ k y q a b c t0 t1 t2. (y ⊠ q ⊞ c) ⊠ (y ⊠ y ⊠ y ⊞ t2 ⊠ (y ⊠ y) ⊞ t1 ⊠ y ⊞ t0) ⊞ ((k ⊞ ⊟ (c ⊠ t0)) ⊞ (a ⊞ ⊟ (c ⊠ t1)) ⊠ y ⊞ (b ⊞ ⊟ (c ⊠ t2)) ⊠ (y ⊠ y))) tt
          (const A k) (X A) d.quotient (const A d.c0) (const A d.c1) (const A d.c2) (const A t0) (const A t1) (const A t2)
          ∙ (λ i. (X A ·ₚ d.quotient +ₚ const A d.c2) ·ₚ cubic A t0 t1 t2 +ₚ
          (const-less A k d.c2 t0 i +ₚ const-less A d.c0 d.c2 t1 i ·ₚ X A +ₚ const-less A d.c1 d.c2 t2 i ·ₚ (X A ·ₚ X A))),
    )

    pub divide : (f : Pol) → Divided A t0 t1 t2 f
    divide = induct A (Divided A t0 t1 t2) divided_prop start divide_step
      where
        start : Divided A t0 t1 t2 𝟎
        start = (record { quotient = 𝟎; c0 = 𝟘; c1 = 𝟘; c2 = 𝟘 }, sym (ap₂ ◌+ₚ◌ (zero-mul (Poly A) (cubic A t0 t1 t2)) (quadratic_zero A) ∙ (Poly A).add_zero 𝟎))
