-- Evaluation is a ring map that is φ on constants and b at the variable.
--   map-neg            a ring map keeps negatives
--   eval-bound         eval φ b f is the sum up to any bound of f
--   eval-split         the value of k + X·f is φ k + b·(the value of f)
--   eval-zero eval-const eval-X eval-X-mul eval-one eval_add eval_mul
use mathlib.Core.Path.{◌≡◌, refl, sym, ◌∙◌, ap, ap₂, fun_ext}
use mathlib.Core.Logic.{∥∥₁_elim}
use Prim.Native.Nat.{ℕ, zero, suc, ◌+◌}
use native.Mathlib.Omega.{arith}
use Rattle.algebra.specs.Ring.{CommRing}
use Rattle.algebra.proofs.Laws.{mul-zero, zero-add, zero-mul, neg_unique}
use Rattle.algebra.proofs.Norm.{nil}
use Rattle.algebra.proofs.Solve.{◌⊞◌, ◌⊠◌, solve}
use Rattle.series.specs.Series.{Series, tail, Bound}
use Rattle.series.proofs.Bounds.{bound-add, bound-more}
use Rattle.polynomial.specs.Poly.{Poly, coef, const, X, finite}
use Rattle.algebra.specs.RingMap.{RingMap}
use Rattle.polynomial.specs.Eval.{value, eval}
use Rattle.series.specs.Value.{horner}
use Rattle.series.proofs.Value.{horner-same}
use Rattle.polynomial.proofs.Coef.{coef-zero, coef-add, coef-split-head, coef-split-next, const-zero, const-one, const-mul}
use Rattle.polynomial.proofs.Induct.{induct}

pub map-neg : {A B : CommRing} (φ : RingMap A B) (a : A.Car) → φ.map (A.neg a) ≡ B.neg (φ.map a)
map-neg {A} {B} φ a = neg_unique B (φ.map a) (φ.map (A.neg a)) (sym (φ.map_add a (A.neg a)) ∙ ap φ.map (A.add_neg a) ∙ φ.map_zero)

module _ {A B : CommRing} (φ : RingMap A B) (b : B.Car) where
  open B use {add as ◌⊕◌, mul as ◌⊗◌, zero as 𝟘, one as 𝟙}
  open Poly A use {Car as Pol, zero as 𝟎, one as 𝟏, add as ◌+ₚ◌, mul as ◌·ₚ◌}

  infixl 60 ◌⊕◌ ◌+ₚ◌
  infixl 70 ◌⊗◌ ◌·ₚ◌
  pub eval-bound : (f : Pol) (n : ℕ) → Bound A (coef A f) n → eval φ b f ≡ horner φ b (coef A f) n
  unfolding eval
  eval-bound f n h = ∥∥₁_elim (value φ b f).1 (B.is_set _ _) (λ x. x.1.1 ∙ horner-same φ b x.0 n (coef A f) x.1.0 h)

  horner-add : (n : ℕ) (a c : Series A) → horner φ b (λ i. A.add (a i) (c i)) n ≡ horner φ b a n ⊕ horner φ b c n
  unfolding horner
  horner-add zero a c = sym (B.add_zero 𝟘)
  horner-add (suc n) a c =
      ap₂ (λ u v. u ⊕ b ⊗ v) (φ.map_add (a zero) (c zero)) (horner-add n (tail A a) (tail A c))
      ∙ solve B 5 (λ x y b u v. (x ⊞ y) ⊞ b ⊠ (u ⊞ v)) (λ x y b u v. (x ⊞ b ⊠ u) ⊞ (y ⊞ b ⊠ v)) tt (φ.map (a zero)) (φ.map (c zero)) b (horner φ b (tail A a) n) (horner φ b (tail A c) n)

  pub eval_add : (f g : Pol) → eval φ b (f +ₚ g) ≡ eval φ b f ⊕ eval φ b g
  eval_add f g =
      ∥∥₁_elim (finite A f) (B.is_set _ _)
      (λ x. ∥∥₁_elim (finite A g) (B.is_set _ _)
      (λ y. go (x.0 + y.0) (bound-more A x.0 (x.0 + y.0) (omega arith) x.1) (bound-more A y.0 (x.0 + y.0) (omega arith) y.1)))
    where
      go : (n : ℕ) → Bound A (coef A f) n → Bound A (coef A g) n → eval φ b (f +ₚ g) ≡ eval φ b f ⊕ eval φ b g
      go n p q =
          eval-bound (f +ₚ g) n (λ i h. coef-add A f g i ∙ bound-add A (coef A f) (coef A g) n p q i h)
          ∙ ap (λ a. horner φ b a n) (fun_ext (coef-add A f g)) ∙ horner-add n (coef A f) (coef A g)
          ∙ sym (ap₂ ◌⊕◌ (eval-bound f n p) (eval-bound g n q))

  horner-next : (a : Series A) (n : ℕ) → horner φ b a (suc n) ≡ φ.map (a zero) ⊕ b ⊗ horner φ b (tail A a) n
  unfolding horner
  horner-next a n = refl

  pub eval-split : (k : A.Car) (f : Pol) → eval φ b (const A k +ₚ X A ·ₚ f) ≡ φ.map k ⊕ b ⊗ eval φ b f
  eval-split k f = ∥∥₁_elim (finite A f) (B.is_set _ _) (λ x. go x.0 x.1)
    where
      bounded : (n : ℕ) → Bound A (coef A f) n → Bound A (coef A (const A k +ₚ X A ·ₚ f)) (suc n)
      bounded n p zero h = absurd (omega arith)
      bounded n p (suc i) h = coef-split-next A k f i ∙ p i (omega arith)

      go : (n : ℕ) → Bound A (coef A f) n → eval φ b (const A k +ₚ X A ·ₚ f) ≡ φ.map k ⊕ b ⊗ eval φ b f
      go n p =
          eval-bound _ (suc n) (bounded n p) ∙ horner-next _ n
          ∙ ap₂ (λ u v. φ.map u ⊕ b ⊗ v) (coef-split-head A k f) (ap (λ a. horner φ b a n) (fun_ext (coef-split-next A k f)) ∙ sym (eval-bound f n p))

  pub eval-zero : eval φ b 𝟎 ≡ 𝟘
  unfolding horner
  eval-zero = eval-bound 𝟎 zero (λ i h. coef-zero A i)

  pub eval-const : (k : A.Car) → eval φ b (const A k) ≡ φ.map k
  eval-const k =
      ap (eval φ b) (solve (Poly A) 2 (λ k x. k) (λ k x. k ⊞ x ⊠ nil) tt (const A k) (X A)) ∙ eval-split k 𝟎
      ∙ ap (λ v. φ.map k ⊕ b ⊗ v) eval-zero ∙ solve B 2 (λ k b. k ⊞ b ⊠ nil) (λ k b. k) tt (φ.map k) b

  pub eval-X-mul : (f : Pol) → eval φ b (X A ·ₚ f) ≡ b ⊗ eval φ b f
  eval-X-mul f =
      ap (eval φ b) (sym (zero-add (Poly A) _) ∙ ap (λ z. z +ₚ X A ·ₚ f) (sym (const-zero A))) ∙ eval-split A.zero f
      ∙ ap (λ z. z ⊕ b ⊗ eval φ b f) φ.map_zero ∙ zero-add B _

  pub eval-one : eval φ b 𝟏 ≡ 𝟙
  eval-one = ap (eval φ b) (sym (const-one A)) ∙ eval-const A.one ∙ φ.map_one

  pub eval-X : eval φ b (X A) ≡ b
  eval-X = ap (eval φ b) (sym ((Poly A).mul_one (X A))) ∙ eval-X-mul 𝟏 ∙ ap (λ v. b ⊗ v) eval-one ∙ B.mul_one b

  eval-const-mul : (k : A.Car) (g : Pol) → eval φ b (const A k ·ₚ g) ≡ φ.map k ⊗ eval φ b g
  eval-const-mul k = induct A (λ g. eval φ b (const A k ·ₚ g) ≡ φ.map k ⊗ eval φ b g) (λ g. B.is_set _ _) start step
    where
      start : eval φ b (const A k ·ₚ 𝟎) ≡ φ.map k ⊗ eval φ b 𝟎
      start = ap (eval φ b) (mul-zero (Poly A) _) ∙ eval-zero ∙ sym (ap (λ v. φ.map k ⊗ v) eval-zero ∙ mul-zero B _)

      step : (c : A.Car) (g : Pol) → eval φ b (const A k ·ₚ g) ≡ φ.map k ⊗ eval φ b g → eval φ b (const A k ·ₚ (const A c +ₚ X A ·ₚ g)) ≡ φ.map k ⊗ eval φ b (const A c +ₚ X A ·ₚ g)
      step c g h =
          ap (eval φ b) (solve (Poly A) 4 (λ k c x g. k ⊠ (c ⊞ x ⊠ g)) (λ k c x g. k ⊠ c ⊞ x ⊠ (k ⊠ g)) tt (const A k) (const A c) (X A) g
          ∙ ap (λ z. z +ₚ X A ·ₚ (const A k ·ₚ g)) (sym (const-mul A k c)))
          ∙ eval-split (A.mul k c) (const A k ·ₚ g) ∙ ap₂ (λ u v. u ⊕ b ⊗ v) (φ.map_mul k c) h
          ∙ solve B 4 (λ k c b v. k ⊠ c ⊞ b ⊠ (k ⊠ v)) (λ k c b v. k ⊠ (c ⊞ b ⊠ v)) tt (φ.map k) (φ.map c) b (eval φ b g)
          ∙ ap (λ v. φ.map k ⊗ v) (sym (eval-split c g))

  pub eval_mul : (f g : Pol) → eval φ b (f ·ₚ g) ≡ eval φ b f ⊗ eval φ b g
  eval_mul f g = induct A (λ f. eval φ b (f ·ₚ g) ≡ eval φ b f ⊗ eval φ b g) (λ f. B.is_set _ _) start step f
    where
      start : eval φ b (𝟎 ·ₚ g) ≡ eval φ b 𝟎 ⊗ eval φ b g
      start = ap (eval φ b) (zero-mul (Poly A) _) ∙ eval-zero ∙ sym (ap (λ v. v ⊗ eval φ b g) eval-zero ∙ zero-mul B _)

      step : (k : A.Car) (f : Pol) → eval φ b (f ·ₚ g) ≡ eval φ b f ⊗ eval φ b g → eval φ b ((const A k +ₚ X A ·ₚ f) ·ₚ g) ≡ eval φ b (const A k +ₚ X A ·ₚ f) ⊗ eval φ b g
      step k f h =
          ap (eval φ b) (solve (Poly A) 4 (λ k x f g. (k ⊞ x ⊠ f) ⊠ g) (λ k x f g. k ⊠ g ⊞ x ⊠ (f ⊠ g)) tt (const A k) (X A) f g)
          ∙ eval_add _ _ ∙ ap₂ ◌⊕◌ (eval-const-mul k g) (eval-X-mul (f ·ₚ g) ∙ ap (λ v. b ⊗ v) h)
          ∙ solve B 4 (λ k b u v. k ⊠ v ⊞ b ⊠ (u ⊠ v)) (λ k b u v. (k ⊞ b ⊠ u) ⊠ v) tt (φ.map k) b (eval φ b f) (eval φ b g)
          ∙ ap (λ u. u ⊗ eval φ b g) (sym (eval-split k f))
