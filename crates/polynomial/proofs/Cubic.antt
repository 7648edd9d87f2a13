-- Coefficients and derivatives of monic cubics F = Y³ + t2·Y² + t1·Y + t0 and of quadratic polynomials in A[Y].
--   cubic A t0 t1 t2          Y³ + t2·Y² + t1·Y + t0
--   quadratic A a0 a1 a2      a0 + a1·Y + a2·Y²
--   coef_quadratic_0 … coef_quadratic_2, coef_quadratic_from     the coefficients of a0 + a1·Y + a2·Y²
--   quadratic_zero quadratic_sub                                 zero and differences of such polynomials
--   const-less               a − b·c among constants
--   coef-cubic_0 … coef-cubic_3, coef-cubic-from                 the coefficients of F
--   coef-cubic-mul           the coefficient of q·F at i + 3
--   deriv-cubic              the derivative of F by Y is 3·Y² + 2·t2·Y + t1
--   by_x-cubic               in k[x][Y] the derivative of F by x is t2'·Y² + t1'·Y + t0'
use mathlib.Core.Path.{◌≡◌, sym, ◌∙◌, ap, ap₂}
use Prim.Native.Nat.{ℕ, zero, suc}
use Rattle.algebra.specs.Ring.{CommRing}
use Rattle.algebra.proofs.Laws.{mul-zero, one-mul}
use Rattle.algebra.proofs.Norm.{nil, unit}
use Rattle.algebra.proofs.Solve.{◌⊞◌, ◌⊠◌, ⊟◌, solve}
use Rattle.polynomial.specs.Poly.{Poly, coef, poly_path, const, X}
use Rattle.polynomial.specs.Deriv.{numeral, deriv}
use Rattle.polynomial.specs.Plane.{by_x}
use Rattle.polynomial.proofs.Coef.{coef-add, coef-X-next, coef-const-mul, coef-const-head, coef-const-next, coef-one-head}
use Rattle.polynomial.proofs.Coef.{coef-one-next, coef-split-head, coef-split-next, const-zero, const-add, const-neg, const-mul}
use Rattle.polynomial.proofs.Deriv.{coef-deriv, numeral-one, deriv-zero, deriv-one}
use Rattle.polynomial.proofs.Plane.{coef-by_x}

module _ (A : CommRing) where
  open A use {Car, zero as 𝟘, one as 𝟙, add as ◌⊕◌, mul as ◌⊗◌, neg as ⊖◌, mul_one}
  open Poly A use {Car as Pol, zero as 𝟎, one as 𝟏, add as ◌+ₚ◌, mul as ◌·ₚ◌, neg as -ₚ◌}

  infixl 60 ◌⊕◌ ◌+ₚ◌
  infixl 70 ◌⊗◌ ◌·ₚ◌
  infix 80 ⊖◌ -ₚ◌
  unfoldable pub cubic : A.Car → A.Car → A.Car → Pol
  cubic t0 t1 t2 = X A ·ₚ X A ·ₚ X A +ₚ const A t2 ·ₚ (X A ·ₚ X A) +ₚ const A t1 ·ₚ X A +ₚ const A t0

  unfoldable pub quadratic : A.Car → A.Car → A.Car → Pol
  quadratic a0 a1 a2 = const A a0 +ₚ const A a1 ·ₚ X A +ₚ const A a2 ·ₚ (X A ·ₚ X A)

  quadratic_split : (a0 a1 a2 : Car) → quadratic a0 a1 a2 ≡ const A a0 +ₚ X A ·ₚ (const A a1 +ₚ X A ·ₚ const A a2)
  unfolding quadratic
  quadratic_split a0 a1 a2 = solve (Poly A) 4 (λ y a b c. a ⊞ b ⊠ y ⊞ c ⊠ (y ⊠ y)) (λ y a b c. a ⊞ y ⊠ (b ⊞ y ⊠ c)) tt (X A) (const A a0) (const A a1) (const A a2)

  pub coef_quadratic_0 : (a0 a1 a2 : Car) → coef A (quadratic a0 a1 a2) 0 ≡ a0
  coef_quadratic_0 a0 a1 a2 = ap (λ f. coef A f 0) (quadratic_split a0 a1 a2) ∙ coef-split-head A _ _

  pub coef_quadratic_1 : (a0 a1 a2 : Car) → coef A (quadratic a0 a1 a2) 1 ≡ a1
  coef_quadratic_1 a0 a1 a2 = ap (λ f. coef A f 1) (quadratic_split a0 a1 a2) ∙ coef-split-next A _ _ 0 ∙ coef-split-head A _ _

  pub coef_quadratic_2 : (a0 a1 a2 : Car) → coef A (quadratic a0 a1 a2) 2 ≡ a2
  coef_quadratic_2 a0 a1 a2 = ap (λ f. coef A f 2) (quadratic_split a0 a1 a2) ∙ coef-split-next A _ _ 1 ∙ coef-split-next A _ _ 0 ∙ coef-const-head A a2

  pub coef_quadratic_from : (a0 a1 a2 : Car) (i : ℕ) → coef A (quadratic a0 a1 a2) (suc (suc (suc i))) ≡ 𝟘
  coef_quadratic_from a0 a1 a2 i = ap (λ f. coef A f (suc (suc (suc i)))) (quadratic_split a0 a1 a2) ∙ coef-split-next A _ _ (suc (suc i)) ∙ coef-split-next A _ _ (suc i) ∙ coef-const-next A a2 i

  const_sub : (a b : Car) → const A (a ⊕ ⊖ b) ≡ const A a +ₚ -ₚ const A b
  const_sub a b = const-add A a (⊖ b) ∙ ap (λ z. const A a +ₚ z) (const-neg A b)

  pub const-less : (a b c : Car) → const A a +ₚ -ₚ (const A b ·ₚ const A c) ≡ const A (a ⊕ ⊖ (b ⊗ c))
  const-less a b c = sym (const_sub a (b ⊗ c) ∙ ap (λ z. const A a +ₚ -ₚ z) (const-mul A b c))

  pub quadratic_sub : (a0 a1 a2 b0 b1 b2 : Car) → quadratic (a0 ⊕ ⊖ b0) (a1 ⊕ ⊖ b1) (a2 ⊕ ⊖ b2) ≡ quadratic a0 a1 a2 +ₚ -ₚ quadratic b0 b1 b2
  unfolding quadratic
  quadratic_sub a0 a1 a2 b0 b1 b2 =
      (λ i. const_sub a0 b0 i +ₚ const_sub a1 b1 i ·ₚ X A +ₚ const_sub a2 b2 i ·ₚ (X A ·ₚ X A))
      ∙ solve (Poly A) 7 (λ y a b c d e f. (a ⊞ ⊟ d) ⊞ (b ⊞ ⊟ e) ⊠ y ⊞ (c ⊞ ⊟ f) ⊠ (y ⊠ y)) (λ y a b c d e f. (a ⊞ b ⊠ y ⊞ c ⊠ (y ⊠ y)) ⊞ ⊟ (d ⊞ e ⊠ y ⊞ f ⊠ (y ⊠ y))) tt
      (X A) (const A a0) (const A a1) (const A a2) (const A b0) (const A b1) (const A b2)

  pub quadratic_zero : quadratic 𝟘 𝟘 𝟘 ≡ 𝟎
  unfolding quadratic
  quadratic_zero =
      (λ i. const-zero A i +ₚ const-zero A i ·ₚ X A +ₚ const-zero A i ·ₚ (X A ·ₚ X A))
      ∙ solve (Poly A) 1 (λ y. nil ⊞ nil ⊠ y ⊞ nil ⊠ (y ⊠ y)) (λ y. nil) tt (X A)

  module _ (t0 t1 t2 : Car) where
    cubic-mul : (q : Pol) → q ·ₚ cubic t0 t1 t2 ≡ X A ·ₚ (X A ·ₚ (X A ·ₚ q)) +ₚ const A t2 ·ₚ (X A ·ₚ (X A ·ₚ q)) +ₚ const A t1 ·ₚ (X A ·ₚ q) +ₚ const A t0 ·ₚ q
    unfolding cubic
    cubic-mul q =
        solve (Poly A) 5 (λ q y a b c. q ⊠ (y ⊠ y ⊠ y ⊞ c ⊠ (y ⊠ y) ⊞ b ⊠ y ⊞ a))
        (λ q y a b c. y ⊠ (y ⊠ (y ⊠ q)) ⊞ c ⊠ (y ⊠ (y ⊠ q)) ⊞ b ⊠ (y ⊠ q) ⊞ a ⊠ q) tt q (X A) (const A t0) (const A t1) (const A t2)

    pub coef-cubic-mul : (q : Pol) (i : ℕ) → coef A (q ·ₚ cubic t0 t1 t2) (suc (suc (suc i))) ≡ coef A q i ⊕ t2 ⊗ coef A q (suc i) ⊕ t1 ⊗ coef A q (suc (suc i)) ⊕ t0 ⊗ coef A q (suc (suc (suc i)))
    coef-cubic-mul q i = ap (λ f. coef A f (suc (suc (suc i)))) (cubic-mul q) ∙ simp (coef-add A, coef-const-mul A, coef-X-next A)

    cubic-split : cubic t0 t1 t2 ≡ const A t0 +ₚ X A ·ₚ (const A t1 +ₚ X A ·ₚ (const A t2 +ₚ X A ·ₚ 𝟏))
    unfolding cubic
    cubic-split = solve (Poly A) 4 (λ y a b c. y ⊠ y ⊠ y ⊞ c ⊠ (y ⊠ y) ⊞ b ⊠ y ⊞ a) (λ y a b c. a ⊞ y ⊠ (b ⊞ y ⊠ (c ⊞ y ⊠ unit))) tt (X A) (const A t0) (const A t1) (const A t2)

    pub coef-cubic_0 : coef A (cubic t0 t1 t2) 0 ≡ t0
    coef-cubic_0 = ap (λ f. coef A f 0) cubic-split ∙ coef-split-head A _ _

    coef-cubic_1 : coef A (cubic t0 t1 t2) 1 ≡ t1
    coef-cubic_1 = ap (λ f. coef A f 1) cubic-split ∙ coef-split-next A _ _ 0 ∙ coef-split-head A _ _

    coef-cubic_2 : coef A (cubic t0 t1 t2) 2 ≡ t2
    coef-cubic_2 = ap (λ f. coef A f 2) cubic-split ∙ coef-split-next A _ _ 1 ∙ coef-split-next A _ _ 0 ∙ coef-split-head A _ _

    pub coef-cubic_3 : coef A (cubic t0 t1 t2) 3 ≡ 𝟙
    coef-cubic_3 = ap (λ f. coef A f 3) cubic-split ∙ coef-split-next A _ _ 2 ∙ coef-split-next A _ _ 1 ∙ coef-split-next A _ _ 0 ∙ coef-one-head A

    pub coef-cubic-from : (i : ℕ) → coef A (cubic t0 t1 t2) (suc (suc (suc (suc i)))) ≡ 𝟘
    coef-cubic-from i =
        ap (λ f. coef A f (suc (suc (suc (suc i))))) cubic-split ∙ coef-split-next A _ _ (suc (suc (suc i))) ∙ coef-split-next A _ _ (suc (suc i)) ∙ coef-split-next A _ _ (suc i)
        ∙ coef-one-next A i

    pub deriv-cubic : deriv A (cubic t0 t1 t2) ≡ quadratic t1 (numeral A 2 ⊗ t2) (numeral A 3)
    deriv-cubic = poly_path A go
      where
        go : (i : ℕ) → coef A (deriv A (cubic t0 t1 t2)) i ≡ coef A (quadratic t1 (numeral A 2 ⊗ t2) (numeral A 3)) i
        go zero = coef-deriv A _ 0 ∙ ap₂ ◌⊗◌ (numeral-one A) coef-cubic_1 ∙ one-mul A t1 ∙ sym (coef_quadratic_0 _ _ _)
        go (suc zero) = coef-deriv A _ 1 ∙ ap (λ t. numeral A 2 ⊗ t) coef-cubic_2 ∙ sym (coef_quadratic_1 _ _ _)
        go (suc (suc zero)) = coef-deriv A _ 2 ∙ ap (λ t. numeral A 3 ⊗ t) coef-cubic_3 ∙ mul_one _ ∙ sym (coef_quadratic_2 _ _ _)
        go (suc (suc (suc i))) = coef-deriv A _ (suc (suc (suc i))) ∙ ap (λ t. numeral A (suc (suc (suc (suc i)))) ⊗ t) (coef-cubic-from i) ∙ mul-zero A _ ∙ sym (coef_quadratic_from _ _ _ i)

module _ (k : CommRing) (t0 t1 t2 : (Poly k).Car) where
  pub by_x-cubic : by_x k (cubic (Poly k) t0 t1 t2) ≡ quadratic (Poly k) (deriv k t0) (deriv k t1) (deriv k t2)
  by_x-cubic = poly_path (Poly k) go
    where
      go : (i : ℕ) → coef (Poly k) (by_x k (cubic (Poly k) t0 t1 t2)) i ≡ coef (Poly k) (quadratic (Poly k) (deriv k t0) (deriv k t1) (deriv k t2)) i
      go zero = coef-by_x k _ 0 ∙ ap (deriv k) (coef-cubic_0 (Poly k) t0 t1 t2) ∙ sym (coef_quadratic_0 (Poly k) _ _ _)
      go (suc zero) = coef-by_x k _ 1 ∙ ap (deriv k) (coef-cubic_1 (Poly k) t0 t1 t2) ∙ sym (coef_quadratic_1 (Poly k) _ _ _)
      go (suc (suc zero)) = coef-by_x k _ 2 ∙ ap (deriv k) (coef-cubic_2 (Poly k) t0 t1 t2) ∙ sym (coef_quadratic_2 (Poly k) _ _ _)
      go (suc (suc (suc zero))) = coef-by_x k _ 3 ∙ ap (deriv k) (coef-cubic_3 (Poly k) t0 t1 t2) ∙ deriv-one k ∙ sym (coef_quadratic_from (Poly k) _ _ _ 0)
      go (suc (suc (suc (suc i)))) = coef-by_x k _ (suc (suc (suc (suc i)))) ∙ ap (deriv k) (coef-cubic-from (Poly k) t0 t1 t2 i) ∙ deriv-zero k ∙ sym (coef_quadratic_from (Poly k) _ _ _ (suc i))
