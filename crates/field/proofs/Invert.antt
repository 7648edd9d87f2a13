-- The inverse of specs/Inverse is one if p is a prime.
--   lt_of_ne           a number that is not zero is positive
--   inverse-zero       the inverse of zero is zero
--   inverse-mul        x·x⁻¹ = 1, if x is not zero and no number from 2 to p − 1 divides p
--   prime-large        1 < p
--   prime-rest         no number from 2 to p − 1 divides p
--   one_not_zero       1 is not 0 modulo p
--   inverse_unique     y = x⁻¹ if x·y = 1
use mathlib.Core.Path.{◌≡◌, refl, sym, ◌∙◌, ap}
use Prim.Native.Nat.{ℕ, zero, suc, ◌/◌, ◌%◌, ◌≤◌, ◌<◌}
use native.Mathlib.Nat.{div-add-mod, mod-lt}
use native.Mathlib.Omega.{arith}
use Rattle.prime.specs.Prime.{Prime}
use Rattle.field.specs.Residue.{Z, el, num}
use Rattle.field.specs.Inverse.{quotient, inverse}
use Rattle.field.proofs.Element.{el-zero, el-one, el_pos, el-num, el_self, el-rest, num-lt, num-el}

-- a number that is not zero
pub lt_of_ne : (n : ℕ) → ¬ (n ≡ 0) → 0 < n
lt_of_ne zero h = absurd (h refl)
lt_of_ne (suc n) h = omega arith

module _ (p : ℕ) where
  quotient-zero : (k : ℕ) → quotient p k 0 ≡ (Z p).zero
  unfolding quotient
  quotient-zero zero = refl
  quotient-zero (suc k) = refl

  pub inverse-zero : 0 < p → inverse p (Z p).zero ≡ (Z p).zero
  unfolding inverse
  inverse-zero h = ap (λ x. quotient p p (num p x)) (sym (el-zero p)) ∙ ap (quotient p p) (num-el p 0 h) ∙ quotient-zero p

  -- It is the inverse if no number from 2 to p − 1 divides p.
  module _ (rest : (n : ℕ) → 1 < n → n < p → 0 < p % n) where
    quotient-mul : (k n : ℕ) → 0 < n → n ≤ k → n < p → (Z p).mul (el p n) (quotient p k n) ≡ (Z p).one
    unfolding quotient
    quotient-mul zero n h l b = absurd (omega arith)
    quotient-mul (suc k) zero h l b = absurd (omega arith)
    quotient-mul (suc k) (suc zero) h l b = (Z p).mul_one _ ∙ el-one p
    quotient-mul (suc k) (suc (suc n)) h l b =
        sym ((Z p).mul_assoc _ _ _)
        ∙ ap (λ x. (Z p).mul x (quotient p k (p % suc (suc n)))) (el-rest p (suc (suc n)) (p / suc (suc n)) (p % suc (suc n)) (ap (el p) (div-add-mod p (suc (suc n))) ∙ el_self p))
        ∙ quotient-mul k (p % suc (suc n)) (rest (suc (suc n)) (omega arith) b) (omega (arith, mod-lt p {m = suc (suc n)} (omega arith))) (omega (arith, mod-lt p {m = suc (suc n)} (omega arith)))

    pub inverse-mul : (x : (Z p).Car) → ¬ (x ≡ (Z p).zero) → 0 < p → (Z p).mul x (inverse p x) ≡ (Z p).one
    unfolding inverse
    inverse-mul x ne pos =
        ap (λ y. (Z p).mul y (quotient p p (num p x))) (sym (el-num p x))
        ∙ quotient-mul p (num p x) (nonzero x ne) (omega (arith, num-lt p x pos)) (num-lt p x pos)
      where
        nonzero : (x : (Z p).Car) → ¬ (x ≡ (Z p).zero) → 0 < num p x
        nonzero x ne = lt_of_ne (num p x) (λ e. ne (sym (el-num p x) ∙ ap (el p) e ∙ el-zero p))

pub prime-large : (p : ℕ) → Prime p → 1 < p
prime-large p h = h.two_le

pub prime-rest : (p : ℕ) → Prime p → (n : ℕ) → 1 < n → n < p → 0 < p % n
prime-rest p h n l b = lt_of_ne (p % n) (h.only n l b)

pub one_not_zero : (p : ℕ) → 1 < p → ¬ ((Z p).one ≡ (Z p).zero)
one_not_zero p h e = el_pos p 1 (omega arith) h (el-one p ∙ e)

-- The inverse is the one element that gives one.
pub inverse_unique : (p : ℕ) → Prime p → (x y : (Z p).Car) → ¬ (x ≡ (Z p).zero) → (Z p).mul x y ≡ (Z p).one → y ≡ inverse p x
inverse_unique p h x y ne e =
    sym ((Z p).mul_one y)
    ∙ ap ((Z p).mul y) (sym (inverse-mul p (prime-rest p h) x ne (omega (arith, prime-large p h))))
    ∙ sym ((Z p).mul_assoc y x _)
    ∙ ap (λ z. (Z p).mul z (inverse p x)) ((Z p).mul_comm y x ∙ e)
    ∙ (Z p).mul_comm _ _
    ∙ (Z p).mul_one _
