-- The functional of f place by place: the value at d + s is chosen so that mono s·f goes to 0.
--   Begun N f d s lam      the values up to d + s are chosen, and the others are 0
--   begun-start            1 at d + 5 and 0 elsewhere
--   begun-next             the value at d + s, for f monic: the lead of mono s·f is twist s d, and c is its inverse
--   begun_done             with the values up to d + 13 it is the functional of f
use mathlib.Core.Path.{◌≡◌, ◌∙◌, ap, ap₂}
use mathlib.Core.List.{[], ◌∷◌}
use Prim.Native.Nat.{ℕ, suc, ◌+◌, ◌<◌, ◌≤◌}
use native.Mathlib.Omega.{arith}
use native.Mathlib.Decide.{ℕ_discrete}
use Rattle.algebra.specs.Ring.{CommRing}
use Rattle.algebra.proofs.Norm.{nil, unit}
use Rattle.algebra.proofs.Solve.{solve_from, given, ◌⊞◌, ◌⊠◌, ⊟◌}
use Rattle.ideal.specs.Poles.{largest_gap}
use Rattle.ideal.proofs.Gaps.{pole-large}
use Rattle.curve.specs.Curve.{Curve, Coordinate}
use Rattle.curve.specs.Sequence.{coefficient, twist}
use Rattle.curve.specs.Monomial.{mono, Below}
use Rattle.curve.proofs.Filtration.{below_more}
use Rattle.curve.proofs.Product.{below_mono, coefficient-mono, product-below, product-top}
use Rattle.functional.specs.Functional.{apply, Functional}
use Rattle.functional.proofs.Apply.{apply-same, apply-more}

-- v + (−(c·v))·(t·(1·1)) = 0 if c·t = 1
vanish : (R : CommRing) (v c t : R.Car) → R.mul c t ≡ R.one → R.add v (R.mul (R.neg (R.mul c v)) (R.mul t (R.mul R.one R.one))) ≡ R.zero
vanish R v c t e =
    solve_from R 3 (λ v c t. given (⊟ v) (c ⊠ t) unit ∷ []) (λ v c t. v ⊞ (⊟ (c ⊠ v)) ⊠ (t ⊠ (unit ⊠ unit))) (λ v c t. nil) tt v c t (e, tt)

module _ {k : CommRing} (C : Curve k) (N : ℕ) where
  open k use {Car, zero as 𝟘, one as 𝟙, add as ◌+ₖ◌, mul as ◌·ₖ◌, neg as -ₖ◌}
  open Coordinate C use {Car as El, mul as ◌⊗◌}

  infixl 60 ◌+ₖ◌
  infixl 70 ◌⊗◌ ◌·ₖ◌
  infix 80 -ₖ◌
  pub record Begun (f : El) (d s : ℕ) (lam : ℕ → Car) : Type 0 where
    pub low : (n : ℕ) → n < d + largest_gap → lam n ≡ 𝟘
    pub one : lam (d + largest_gap) ≡ 𝟙
    pub kills : (r : ℕ) → 6 ≤ r → r < s → apply C N lam (mono C r ⊗ f) ≡ 𝟘
    pub high : (n : ℕ) → d + s ≤ n → lam n ≡ 𝟘

  pub begun-start : (f : El) (d : ℕ) (lam : ℕ → Car) → lam (d + largest_gap) ≡ 𝟙 → ((n : ℕ) → ¬ (n ≡ d + largest_gap) → lam n ≡ 𝟘) → Begun f d 6 lam
  begun-start f d lam e z =
      record { low = λ n h. z n (omega arith); one = e; kills = λ r a b. absurd (omega arith); high = λ n h. z n (omega arith) }

  module _ {f : El} {d s : ℕ} {lam lam' : ℕ → Car} (B : Begun f d s lam) (below : Below C (suc d) f) (monic : coefficient C d f ≡ 𝟙) (from : 6 ≤ s) (room : d + s < N) (c : Car)
      (inverse : c ·ₖ twist C s d ≡ 𝟙)
      (others : (n : ℕ) → ¬ (n ≡ d + s) → lam' n ≡ lam n)
      (new : lam' (d + s) ≡ -ₖ (c ·ₖ apply C N lam (mono C s ⊗ f))) where
    lead : coefficient C (d + s) (mono C s ⊗ f) ≡ twist C s d ·ₖ (𝟙 ·ₖ 𝟙)
    lead =
        ap (λ n. coefficient C n (mono C s ⊗ f)) {x = d + s} {y = s + d} (omega arith)
        ∙ product-top C (below_mono C s (pole-large from)) below
        ∙ ap (λ u. twist C s d ·ₖ u) (ap₂ ◌·ₖ◌ (coefficient-mono C s (pole-large from)) monic)

    here : apply C N lam' (mono C s ⊗ f) ≡ 𝟘
    here =
        apply-more C N lam lam' (d + s) others room (B.high (d + s) (omega arith)) (mono C s ⊗ f)
        ∙ ap₂ (λ u v. apply C N lam (mono C s ⊗ f) +ₖ u ·ₖ v) new lead
        ∙ vanish k (apply C N lam (mono C s ⊗ f)) c (twist C s d) inverse

    before : (r : ℕ) → 6 ≤ r → r < s → apply C N lam' (mono C r ⊗ f) ≡ 𝟘
    before r a b =
        apply-same C N lam lam' (d + s) others (below_more C (omega arith) (product-below C (below_mono C r (pole-large a)) below))
        ∙ B.kills r a b

    pub begun-next : Begun f d (suc s) lam'
    begun-next =
        record {
          low = λ n h. others n (omega arith) ∙ B.low n h;
          one = others (d + largest_gap) (omega arith) ∙ B.one;
          kills = λ r a b. go r a b (ℕ_discrete r s);
          high = λ n h. others n (omega arith) ∙ B.high n (omega arith);
        }
      where
        go : (r : ℕ) → 6 ≤ r → r < suc s → Dec (r ≡ s) → apply C N lam' (mono C r ⊗ f) ≡ 𝟘
        go r a b (yes e) = ap (λ n. apply C N lam' (mono C n ⊗ f)) e ∙ here
        go r a b (no n) = before r a (omega arith)

  pub begun_done : {f : El} {d : ℕ} {lam : ℕ → Car} → Begun f d 14 lam → Functional C N f d lam
  begun_done B = record { low = B.low; one = B.one; kills = B.kills }
