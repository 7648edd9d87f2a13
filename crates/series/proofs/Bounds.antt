-- Series that vanish from some place on: sums, negatives, products, constants, shifts and tails of such series are such series.
--   bound-more                 a bound may rise
--   bound-add, bound-tail      sums; the tail has a bound one less
--   finite-add finite-neg finite-product finite-constant finite-shift finite-tail
--   finite-times               each coefficient times one of another series
--   finite-each                h applied to each coefficient, for a map h that takes 0 to 0
use mathlib.Core.Path.{◌≡◌, ◌∙◌, ap, ap₂}
use mathlib.Core.Logic.{∥∥₁_map, ∥∥₁_map₂}
use Prim.Native.Nat.{ℕ, zero, suc, ◌+◌, ◌≤◌, suc-le-suc}
use native.Mathlib.Omega.{arith}
use Rattle.algebra.specs.Ring.{CommRing}
use Rattle.algebra.proofs.Laws.{mul-zero, neg-zero}
use Rattle.series.specs.Series.{Series, tail, product, constant, shift, Bound, Finite}
use Rattle.series.proofs.Product.{zero-product, product-next, constant-next, shift-next}

module _ (A : CommRing) where
  open A use {Car, zero as 𝟘, one as 𝟙, add as ◌⊕◌, mul as ◌⊗◌, neg as ⊖◌, add_zero}

  infixl 60 ◌⊕◌
  infixl 70 ◌⊗◌
  infix 80 ⊖◌
  pub bound-more : {a : Series A} (m n : ℕ) → m ≤ n → Bound A a m → Bound A a n
  bound-more m n h b i k = b i (omega arith)

  pub bound-add : (a b : Series A) (n : ℕ) → Bound A a n → Bound A b n → Bound A (λ i. a i ⊕ b i) n
  bound-add a b n p q i h = ap₂ ◌⊕◌ (p i h) (q i h) ∙ add_zero 𝟘

  bound-neg : (a : Series A) (n : ℕ) → Bound A a n → Bound A (λ i. ⊖ a i) n
  bound-neg a n p i h = ap ⊖◌ (p i h) ∙ neg-zero A

  pub bound-tail : (a : Series A) (n : ℕ) → Bound A a (suc n) → Bound A (tail A a) n
  bound-tail a n p i h = p (suc i) (suc-le-suc h)

  bound-constant : (k : Car) → Bound A (constant A k) 1
  bound-constant k zero h = absurd (omega arith)
  bound-constant k (suc i) h = constant-next A k i

  bound-shift : (a : Series A) (n : ℕ) → Bound A a n → Bound A (shift A a) (suc n)
  bound-shift a n p zero h = absurd (omega arith)
  bound-shift a n p (suc i) h = shift-next A a i ∙ p i (omega arith)

  bound-product : (m : ℕ) (a b : Series A) (n : ℕ) → Bound A a m → Bound A b n → Bound A (product A a b) (m + n)
  bound-product zero a b n p q i h = zero-product A a b (λ j. p j (omega arith)) i
  bound-product (suc m) a b n p q zero h = absurd (omega arith)
  bound-product (suc m) a b n p q (suc i) h =
      product-next A a b i ∙ ap₂ ◌⊕◌ (ap (λ t. a zero ⊗ t) (q (suc i) (omega arith)) ∙ mul-zero A (a zero))
      (bound-product m (tail A a) b n (bound-tail a m p) q i (omega arith)) ∙ add_zero 𝟘

  pub finite-add : (a b : Series A) → Finite A a → Finite A b → Finite A (λ i. a i ⊕ b i)
  finite-add a b p q =
      ∥∥₁_map₂ p q (λ x y. (x.0 + y.0, bound-add a b (x.0 + y.0) (bound-more x.0 (x.0 + y.0) (omega arith) x.1) (bound-more y.0 (x.0 + y.0) (omega arith) y.1)))

  pub finite-neg : (a : Series A) → Finite A a → Finite A (λ i. ⊖ a i)
  finite-neg a p = ∥∥₁_map p (λ x. (x.0, bound-neg a x.0 x.1))

  pub finite-product : (a b : Series A) → Finite A a → Finite A b → Finite A (product A a b)
  finite-product a b p q = ∥∥₁_map₂ p q (λ x y. (x.0 + y.0, bound-product x.0 a b y.0 x.1 y.1))

  pub finite-constant : (k : Car) → Finite A (constant A k)
  finite-constant k = ∣ (1, bound-constant k) ∣₁

  pub finite-shift : (a : Series A) → Finite A a → Finite A (shift A a)
  finite-shift a p = ∥∥₁_map p (λ x. (suc x.0, bound-shift a x.0 x.1))

  pub finite-tail : (a : Series A) → Finite A a → Finite A (tail A a)
  finite-tail a p = ∥∥₁_map p (λ x. (x.0, λ i h. x.1 (suc i) (omega arith)))

  pub finite-times : (c a : Series A) → Finite A a → Finite A (λ i. c i ⊗ a i)
  finite-times c a h = ∥∥₁_map h (λ x. (x.0, λ i k. ap (λ t. c i ⊗ t) (x.1 i k) ∙ mul-zero A (c i)))

  pub finite-each : (h : Car → Car) → h 𝟘 ≡ 𝟘 → (a : Series A) → Finite A a → Finite A (λ i. h (a i))
  finite-each h z a p = ∥∥₁_map p (λ x. (x.0, λ i l. ap h (x.1 i l) ∙ z))
