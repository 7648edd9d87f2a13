-- The value of a functional at sums, multiples and elements with few monomials.
--   apply-add, apply-scale     it is linear
--   apply-low                  0 at what has no monomial from c on, if lam is 0 below c
--   apply-top                  lam c times the coefficient at c, at what has no monomial above c
--   apply-same                 functionals that agree where g has a coefficient
--   apply-more                 one more value lam m adds lam m times the coefficient at m
use mathlib.Core.Path.{◌≡◌, refl, sym, ◌∙◌, ap}
use Prim.Native.Nat.{ℕ, suc, ◌<◌}
use native.Mathlib.Omega.{arith}
use native.Mathlib.Decide.{ℕ_discrete, dec_lt}
use Rattle.algebra.specs.Ring.{CommRing}
use Rattle.algebra.proofs.Laws as L
use Rattle.curve.specs.Curve.{Curve, Coordinate, constant}
use Rattle.curve.specs.Sequence.{coefficient}
use Rattle.curve.specs.Monomial.{Below}
use Rattle.curve.proofs.Term.{coefficient-add, coefficient-constant-mul}
use Rattle.curve.proofs.Filtration.{below-coefficient}
use Rattle.vector.specs.Contract.{total}
use Rattle.functional.specs.Functional.{apply}
use Rattle.functional.proofs.Total.{total-same, total-add, total-scale, total-zero, total-one}

module _ {k : CommRing} (C : Curve k) (N : ℕ) where
  open k use {Car, zero as 𝟘, one as 𝟙, add as ◌+ₖ◌, mul as ◌·ₖ◌, neg as -ₖ◌}
  open Coordinate C use {Car as El, zero as 𝟎, one as 𝟏, add as ◌⊕◌, mul as ◌⊗◌, neg as ⊖◌}

  infixl 60 ◌⊕◌ ◌+ₖ◌
  infixl 70 ◌⊗◌ ◌·ₖ◌
  infix 80 ⊖◌ -ₖ◌
  module _ (lam : ℕ → Car) where
    pub apply-add : (g h : El) → apply C N lam (g ⊕ h) ≡ apply C N lam g +ₖ apply C N lam h
    unfolding apply
    apply-add g h =
        total-same k _ _ N (λ i l. ap (λ u. lam i ·ₖ u) (coefficient-add C i g h) ∙ k.mul_add _ _ _)
        ∙ total-add k (λ i. lam i ·ₖ coefficient C i g) (λ i. lam i ·ₖ coefficient C i h) N

    pub apply-scale : (c : Car) (g : El) → apply C N lam (constant C c ⊗ g) ≡ c ·ₖ apply C N lam g
    unfolding apply
    apply-scale c g =
        total-same k _ _ N (λ i l. ap (λ u. lam i ·ₖ u) (coefficient-constant-mul C i c g) ∙ L.mul_left_comm k _ _ _)
        ∙ total-scale k c (λ i. lam i ·ₖ coefficient C i g) N

    module _ (c : ℕ) (low : (n : ℕ) → n < c → lam n ≡ 𝟘) where
      pub apply-low : {g : El} → Below C c g → apply C N lam g ≡ 𝟘
      unfolding apply
      apply-low {g} b = total-zero k _ N (λ i l. go i (dec_lt i c))
        where
          go : (i : ℕ) → Dec (i < c) → lam i ·ₖ coefficient C i g ≡ 𝟘
          go i (yes h) = ap (λ u. u ·ₖ coefficient C i g) (low i h) ∙ L.zero-mul k _
          go i (no h) = ap (λ u. lam i ·ₖ u) (below-coefficient C b i (omega arith)) ∙ L.mul-zero k _

      pub apply-top : c < N → {g : El} → Below C (suc c) g → apply C N lam g ≡ lam c ·ₖ coefficient C c g
      unfolding apply
      apply-top l {g} b = total-one k (λ i. lam i ·ₖ coefficient C i g) c N l (λ i h n. go i n (dec_lt i c))
        where
          go : (i : ℕ) → ¬ (i ≡ c) → Dec (i < c) → lam i ·ₖ coefficient C i g ≡ 𝟘
          go i n (yes h) = ap (λ u. u ·ₖ coefficient C i g) (low i h) ∙ L.zero-mul k _
          go i n (no h) = ap (λ u. lam i ·ₖ u) (below-coefficient C b i (omega arith)) ∙ L.mul-zero k _

  module _ (lam lam' : ℕ → Car) (m : ℕ) (others : (n : ℕ) → ¬ (n ≡ m) → lam' n ≡ lam n) where
    pub apply-same : {g : El} → Below C m g → apply C N lam' g ≡ apply C N lam g
    unfolding apply
    apply-same {g} b = total-same k _ _ N (λ i l. go i (ℕ_discrete i m))
      where
        go : (i : ℕ) → Dec (i ≡ m) → lam' i ·ₖ coefficient C i g ≡ lam i ·ₖ coefficient C i g
        go i (yes e) = ap (λ u. lam' i ·ₖ u) z ∙ L.mul-zero k _ ∙ sym (ap (λ u. lam i ·ₖ u) z ∙ L.mul-zero k _)
          where
            z : coefficient C i g ≡ 𝟘
            z = below-coefficient C b i (omega arith)
        go i (no n) = ap (λ u. u ·ₖ coefficient C i g) (others i n)

    pub apply-more : m < N → lam m ≡ 𝟘 → (g : El) → apply C N lam' g ≡ apply C N lam g +ₖ lam' m ·ₖ coefficient C m g
    unfolding apply
    apply-more h z g =
        total-same k _ (λ i. lam i ·ₖ coefficient C i g +ₖ term i (ℕ_discrete i m)) N (λ i l. split i (ℕ_discrete i m))
        ∙ total-add k (λ i. lam i ·ₖ coefficient C i g) (λ i. term i (ℕ_discrete i m)) N
        ∙ ap (λ u. total k (λ i. lam i ·ₖ coefficient C i g) N +ₖ u) (total-one k (λ i. term i (ℕ_discrete i m)) m N h (λ i l n. other i n (ℕ_discrete i m)) ∙ same (ℕ_discrete m m))
      where
        term : (i : ℕ) → Dec (i ≡ m) → Car
        term i (yes e) = lam' m ·ₖ coefficient C m g
        term i (no n) = 𝟘

        split : (i : ℕ) (d : Dec (i ≡ m)) → lam' i ·ₖ coefficient C i g ≡ lam i ·ₖ coefficient C i g +ₖ term i d
        split i (yes e) = ap (λ j. lam' j ·ₖ coefficient C j g) e ∙ sym (ap (λ u. u +ₖ lam' m ·ₖ coefficient C m g) (ap (λ u. u ·ₖ coefficient C i g) (ap lam e ∙ z) ∙ L.zero-mul k _) ∙ L.zero-add k _)
        split i (no n) = ap (λ u. u ·ₖ coefficient C i g) (others i n) ∙ sym (k.add_zero _)

        other : (i : ℕ) → ¬ (i ≡ m) → (d : Dec (i ≡ m)) → term i d ≡ 𝟘
        other i n (yes e) = absurd (n e)
        other i n (no _) = refl

        same : (d : Dec (m ≡ m)) → term m d ≡ lam' m ·ₖ coefficient C m g
        same (yes e) = refl
        same (no n) = absurd (n refl)
