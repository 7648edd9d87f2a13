-- The coefficients of sums, products, constants and multiples of the variable.
--   coef-zero coef-add coef-neg coef-one-head coef-one-next      of the ring's operations
--   rest A f            f without its constant coefficient, divided by the variable
--   coef-poly coef-rest coef-const-head coef-const-next          of polynomials given by coefficients
--   coef-const-mul      of a constant times f
--   coef-X-head coef-X-next                                      of the variable times f
--   coef-split-head coef-split-next                              of k + X·f
--   const-zero const-one const-add const-mul const-neg           constants are a subring
--   split               f = f₀ + X·(rest f)
use mathlib.Core.Path.{◌≡◌, refl, sym, ◌∙◌, ap₂}
use Prim.Native.Nat.{ℕ, zero, suc}
use Rattle.algebra.specs.Ring.{CommRing}
use Rattle.algebra.proofs.Laws.{mul-zero, zero-mul, neg-zero, zero-add}
use Rattle.series.specs.Series.{tail, Series, constant, shift, Finite}
use Rattle.series.proofs.Bounds.{finite-tail}
use Rattle.series.proofs.Product.{product-head, product-next, constant-product}
use Rattle.polynomial.specs.Poly.{Poly, coef, poly, poly_path, const, X, finite}

module _ (A : CommRing) where
  open A use {Car, zero as 𝟘, one as 𝟙, add as ◌⊕◌, mul as ◌⊗◌, neg as ⊖◌, add_zero, mul_one, mul_comm}
  open Poly A use {Car as Pol, zero as 𝟎, one as 𝟏, add as ◌+ₚ◌, mul as ◌·ₚ◌, neg as -ₚ◌}

  infixl 60 ◌⊕◌ ◌+ₚ◌
  infixl 70 ◌⊗◌ ◌·ₚ◌
  infix 80 ⊖◌ -ₚ◌
  pub coef-zero : (i : ℕ) → coef A 𝟎 i ≡ 𝟘
  unfolding Poly coef
  coef-zero i = refl

  pub coef-add : (f g : Pol) (i : ℕ) → coef A (f +ₚ g) i ≡ coef A f i ⊕ coef A g i
  unfolding Poly coef
  coef-add f g i = refl

  pub coef-neg : (f : Pol) (i : ℕ) → coef A (-ₚ f) i ≡ ⊖ coef A f i
  unfolding Poly coef
  coef-neg f i = refl

  pub coef-poly : (a : Series A) (h : Finite A a) (i : ℕ) → coef A (poly A a h) i ≡ a i
  unfolding Poly coef poly
  coef-poly a h i = refl

  unfoldable pub rest : Pol → Pol
  rest f = poly A (tail A (coef A f)) (finite-tail A (coef A f) (finite A f))

  pub coef-rest : (f : Pol) (i : ℕ) → coef A (rest f) i ≡ coef A f (suc i)
  unfolding Poly coef poly rest
  coef-rest f i = refl

  pub coef-const-head : (k : Car) → coef A (const A k) zero ≡ k
  unfolding Poly coef poly const constant
  coef-const-head k = refl

  pub coef-const-next : (k : Car) (i : ℕ) → coef A (const A k) (suc i) ≡ 𝟘
  unfolding Poly coef poly const constant
  coef-const-next k i = refl

  pub coef-one-head : coef A 𝟏 zero ≡ 𝟙
  unfolding Poly coef constant
  coef-one-head = refl

  pub coef-one-next : (i : ℕ) → coef A 𝟏 (suc i) ≡ 𝟘
  unfolding Poly coef constant
  coef-one-next i = refl

  pub coef-const-mul : (k : Car) (f : Pol) (i : ℕ) → coef A (const A k ·ₚ f) i ≡ k ⊗ coef A f i
  unfolding Poly coef poly const
  coef-const-mul k f i = constant-product A k (coef A f) i

  pub coef-X-head : (f : Pol) → coef A (X A ·ₚ f) zero ≡ 𝟘
  unfolding Poly coef poly X shift
  coef-X-head f = product-head A _ _ ∙ zero-mul A _

  pub coef-X-next : (f : Pol) (i : ℕ) → coef A (X A ·ₚ f) (suc i) ≡ coef A f i
  unfolding Poly coef poly X shift
  coef-X-next f i = product-next A _ _ i ∙ ap₂ ◌⊕◌ (zero-mul A _) (constant-product A 𝟙 (coef A f) i ∙ mul_comm _ _ ∙ mul_one _) ∙ zero-add A _

  pub coef-split-head : (k : Car) (f : Pol) → coef A (const A k +ₚ X A ·ₚ f) zero ≡ k
  coef-split-head k f = coef-add _ _ zero ∙ ap₂ ◌⊕◌ (coef-const-head k) (coef-X-head f) ∙ add_zero k

  pub coef-split-next : (k : Car) (f : Pol) (i : ℕ) → coef A (const A k +ₚ X A ·ₚ f) (suc i) ≡ coef A f i
  coef-split-next k f i = coef-add _ _ (suc i) ∙ ap₂ ◌⊕◌ (coef-const-next k i) (coef-X-next f i) ∙ zero-add A _

  pub const-zero : const A 𝟘 ≡ 𝟎
  const-zero = poly_path A go
    where
      go : (i : ℕ) → coef A (const A 𝟘) i ≡ coef A 𝟎 i
      go zero = coef-const-head 𝟘 ∙ sym (coef-zero zero)
      go (suc i) = coef-const-next 𝟘 i ∙ sym (coef-zero (suc i))

  pub const-one : const A 𝟙 ≡ 𝟏
  unfolding Poly coef poly const
  const-one = refl

  pub const-add : (a b : Car) → const A (a ⊕ b) ≡ const A a +ₚ const A b
  const-add a b = poly_path A go
    where
      go : (i : ℕ) → coef A (const A (a ⊕ b)) i ≡ coef A (const A a +ₚ const A b) i
      go zero = simp (coef-add, coef-const-head)
      go (suc i) = simp (coef-add, coef-const-next, add_zero)

  pub const-neg : (a : Car) → const A (⊖ a) ≡ -ₚ const A a
  const-neg a = poly_path A go
    where
      go : (i : ℕ) → coef A (const A (⊖ a)) i ≡ coef A (-ₚ const A a) i
      go zero = simp (coef-neg, coef-const-head)
      go (suc i) = simp (coef-neg, coef-const-next, neg-zero A)

  pub const-mul : (a b : Car) → const A (a ⊗ b) ≡ const A a ·ₚ const A b
  const-mul a b = poly_path A go
    where
      go : (i : ℕ) → coef A (const A (a ⊗ b)) i ≡ coef A (const A a ·ₚ const A b) i
      go zero = simp (coef-const-mul, coef-const-head)
      go (suc i) = simp (coef-const-mul, coef-const-next, mul-zero A)

  pub split : (f : Pol) → f ≡ const A (coef A f zero) +ₚ X A ·ₚ rest f
  split f = poly_path A go
    where
      go : (i : ℕ) → coef A f i ≡ coef A (const A (coef A f zero) +ₚ X A ·ₚ rest f) i
      go zero = simp (coef-add, coef-const-head, coef-X-head, add_zero)
      go (suc i) = simp (coef-add, coef-const-next, coef-X-next, coef-rest, zero-add A)
