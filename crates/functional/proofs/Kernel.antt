-- The functional of f and the kernel of f: what the functional takes to 0 below d + 14 is in the kernel.
--   functional_kernel      apply lam h = 0 puts h in the kernel of f, for h below d + 14
--   functional-low         the functional is 0 below d + 5
--   functional-top         … and the coefficient at d + 5 of an element below d + 6
use mathlib.Core.Path.{◌≡◌, sym, ◌∙◌, ap, ap₂, subst}
use Prim.Native.Nat.{ℕ, zero, suc, ◌+◌, ◌<◌, ◌≤◌}
use native.Mathlib.Omega.{arith}
use native.Mathlib.Decide.{ℕ_discrete}
use Rattle.algebra.specs.Ring.{Field}
use Rattle.algebra.proofs.Laws as L
use Rattle.algebra.proofs.Solve.{solve, ◌⊞◌, ◌⊠◌}
use Rattle.ideal.specs.Poles.{largest_gap, HasPole}
use Rattle.ideal.proofs.Gaps.{pole-large}
use Rattle.ideal.proofs.Degree.{lowered, mono-has, pole-mul, pole-at}
use Rattle.ideal.proofs.Kernel.{Ker, ker_below, ker_less}
use Rattle.curve.specs.Curve.{Curve, Coordinate, constant}
use Rattle.curve.specs.Sequence.{coefficient}
use Rattle.curve.specs.Monomial.{mono, Below}
use Rattle.curve.proofs.Filtration.{below_none, below_more, below_step}
use Rattle.curve.proofs.Product.{split}
use Rattle.poles.specs.Poles.{poles}
use Rattle.curve.proofs.Poles as CP
use Rattle.functional.specs.Functional.{apply, Functional}
use Rattle.functional.proofs.Apply.{apply-add, apply-scale, apply-low, apply-top}

module _ (K : Field) (C : Curve K.ring) where
  open K.ring use {Car, zero as 𝟘, one as 𝟙, add as ◌+ₖ◌, mul as ◌·ₖ◌, neg as -ₖ◌}
  open Coordinate C use {Car as El, zero as 𝟎, one as 𝟏, add as ◌⊕◌, mul as ◌⊗◌, neg as ⊖◌}

  infixl 60 ◌⊕◌ ◌+ₖ◌
  infixl 70 ◌⊗◌ ◌·ₖ◌
  infix 80 ⊖◌ -ₖ◌
  -- an element without monomials from 1 on is a constant
  constant_of : {a : El} → Below C 1 a → a ≡ constant C (coefficient C 0 a)
  constant_of {a} b =
      L.sub-zero→eq (Coordinate C) a _ (below_none C (split C b))
      ∙ ap (λ u. constant C (coefficient C 0 a) ⊗ u) (CP.mono_zero K C)
      ∙ (Coordinate C).mul_one _

  module _ (N : ℕ) {f : El} {d : ℕ} {lam : ℕ → Car} (F : Functional C N f d lam) where
    pub functional-low : {g : El} → Below C (d + largest_gap) g → apply C N lam g ≡ 𝟘
    functional-low b = apply-low C N lam (d + largest_gap) F.low b

    pub functional-top : d + largest_gap < N → {g : El} → Below C (suc (d + largest_gap)) g → apply C N lam g ≡ coefficient C (d + largest_gap) g
    functional-top l {g} b =
        apply-top C N lam (d + largest_gap) F.low l b
        ∙ ap (λ u. u ·ₖ coefficient C (d + largest_gap) g) F.one
        ∙ L.one-mul K.ring _

    module _ (nonzero : ¬ (C.a0 ≡ 𝟘)) (pf : HasPole (poles K C nonzero) f d) (room : d + largest_gap < N) where
      turned : (h a s f : El) → h ⊕ a ⊗ (s ⊗ f) ≡ h ⊕ f ⊗ (a ⊗ s)
      turned = solve (Coordinate C) 4 (λ h a s f. h ⊞ a ⊠ (s ⊠ f)) (λ h a s f. h ⊞ f ⊠ (a ⊠ s)) tt

      step : (m : ℕ) → m < 9 → ((h : El) → Below C (d + largest_gap + m) h → apply C N lam h ≡ 𝟘 → Ker (poles K C nonzero) f d h)
          → (h : El) → Below C (suc (d + largest_gap + m)) h → apply C N lam h ≡ 𝟘 → Dec (m ≡ 0) → Ker (poles K C nonzero) f d h
      unfolding poles
      step m l next h b e (yes z) = next h (below_step C b (ap (λ n. coefficient C n h) q ∙ sym (functional-top room (below_more C (omega arith) b)) ∙ e)) e
        where
          q : d + largest_gap + m ≡ d + largest_gap
          q = omega arith
      step m l next h b e (no n) = go (lowered (poles K C nonzero) {g = h} b (pole-at (poles K C nonzero) {n = d + largest_gap + m} (omega arith) product))
        where
          product : HasPole (poles K C nonzero) (mono C (m + 5) ⊗ f) (m + 5 + d)
          product = pole-mul (poles K C nonzero) (mono-has (poles K C nonzero) {n = m + 5} (pole-large (omega arith))) pf

          go : (a : El) × Below C 1 a × Below C (d + largest_gap + m) (h ⊕ a ⊗ (mono C (m + 5) ⊗ f)) → Ker (poles K C nonzero) f d h
          go (a, c, b') = ker_less (poles K C nonzero) pf (subst (Ker (poles K C nonzero) f d) (turned h a (mono C (m + 5)) f) (next _ b' same))
            where
              same : apply C N lam (h ⊕ a ⊗ (mono C (m + 5) ⊗ f)) ≡ 𝟘
              same = apply-add C N lam h _ ∙ ap₂ ◌+ₖ◌ e multiple ∙ K.ring.add_zero 𝟘
                where
                  multiple : apply C N lam (a ⊗ (mono C (m + 5) ⊗ f)) ≡ 𝟘
                  multiple =
                      ap (λ u. apply C N lam (u ⊗ (mono C (m + 5) ⊗ f))) (constant_of c)
                      ∙ apply-scale C N lam _ _
                      ∙ ap (λ u. coefficient C 0 a ·ₖ u) (F.kills (m + 5) (omega arith) (omega arith))
                      ∙ L.mul-zero K.ring _

      descent : (m : ℕ) → m ≤ 9 → (h : El) → Below C (d + largest_gap + m) h → apply C N lam h ≡ 𝟘 → Ker (poles K C nonzero) f d h
      unfolding poles
      descent zero l h b e = ker_below (poles K C nonzero) pf (below_more C (omega arith) b)
      descent (suc m) l h b e = step m (omega arith) (descent m (omega arith)) h (below_more C (omega arith) b) e (ℕ_discrete m 0)

      pub functional_kernel : {h : El} → Below C (d + 14) h → apply C N lam h ≡ 𝟘 → Ker (poles K C nonzero) f d h
      functional_kernel {h} b e = descent 9 (omega arith) h (below_more C (omega arith) b) e
