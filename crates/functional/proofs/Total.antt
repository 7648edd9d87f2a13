-- Finite sums f 0 + … + f (n − 1) in a commutative ring.
--   total-add, total-scale     sums of sums and of multiples
--   total-same                 equal terms give equal sums
--   total-zero                 a sum of zeros
--   total-one                  a sum with one term that is not zero
--   total_range                a sum of terms that are zero outside of a range, over that range
use mathlib.Core.Path.{◌≡◌, refl, sym, ◌∙◌, ap, ap₂}
use Prim.Native.Nat.{ℕ, zero, suc, ◌+◌, ◌-◌, ◌<◌, ◌≤◌}
use native.Mathlib.Omega.{arith}
use native.Mathlib.Decide.{dec_le}
use Rattle.algebra.specs.Ring.{CommRing}
use Rattle.algebra.proofs.Laws as L
use Rattle.vector.specs.Contract.{total}

module _ (R : CommRing) where
  open R use {Car, zero as 𝟘, add as ◌⊕◌, mul as ◌⊗◌}

  infixl 60 ◌⊕◌
  infixl 70 ◌⊗◌
  pub total-same : (f g : ℕ → Car) (n : ℕ) → ((i : ℕ) → i < n → f i ≡ g i) → total R f n ≡ total R g n
  total-same f g zero e = refl
  total-same f g (suc n) e = ap₂ ◌⊕◌ (e n (omega arith)) (total-same f g n (λ i h. e i (omega arith)))

  pub total-add : (f g : ℕ → Car) (n : ℕ) → total R (λ i. f i ⊕ g i) n ≡ total R f n ⊕ total R g n
  total-add f g zero = sym (R.add_zero 𝟘)
  total-add f g (suc n) = ap (λ u. f n ⊕ g n ⊕ u) (total-add f g n) ∙ L.swap_add R (f n) (g n) (total R f n) (total R g n)

  pub total-scale : (c : Car) (f : ℕ → Car) (n : ℕ) → total R (λ i. c ⊗ f i) n ≡ c ⊗ total R f n
  total-scale c f zero = sym (L.mul-zero R c)
  total-scale c f (suc n) = ap (λ u. c ⊗ f n ⊕ u) (total-scale c f n) ∙ sym (R.mul_add c (f n) (total R f n))

  pub total-zero : (f : ℕ → Car) (n : ℕ) → ((i : ℕ) → i < n → f i ≡ 𝟘) → total R f n ≡ 𝟘
  total-zero f zero e = refl
  total-zero f (suc n) e = ap₂ ◌⊕◌ (e n (omega arith)) (total-zero f n (λ i h. e i (omega arith))) ∙ R.add_zero 𝟘

  -- zeros at the end may be left out
  total_cut : (f : ℕ → Car) (m n : ℕ) → m ≤ n → ((i : ℕ) → m ≤ i → i < n → f i ≡ 𝟘) → total R f n ≡ total R f m
  total_cut f m zero h e = ap (total R f) {x = 0} {y = m} (omega arith)
  total_cut f m (suc n) h e = go (dec_le m n) (total_cut f m n)
    where
      go : Dec (m ≤ n) → (m ≤ n → ((i : ℕ) → m ≤ i → i < n → f i ≡ 𝟘) → total R f n ≡ total R f m) → total R f (suc n) ≡ total R f m
      go (yes l) r = ap₂ ◌⊕◌ (e n l (omega arith)) (r l (λ i a b. e i a (omega arith))) ∙ L.zero-add R (total R f m)
      go (no l) r = ap (total R f) {x = suc n} {y = m} (omega arith)

  pub total-one : (f : ℕ → Car) (c n : ℕ) → c < n → ((i : ℕ) → i < n → ¬ (i ≡ c) → f i ≡ 𝟘) → total R f n ≡ f c
  total-one f c n h e =
      total_cut f (suc c) n h (λ i a b. e i b (omega arith))
      ∙ ap (λ u. f c ⊕ u) (total-zero f c (λ i b. e i (omega arith) (omega arith)))
      ∙ R.add_zero (f c)

  total-from : (f : ℕ → Car) (a m : ℕ) → ((i : ℕ) → i < a → f i ≡ 𝟘) → total R f (a + m) ≡ total R (λ i. f (a + i)) m
  total-from f a zero e = ap (total R f) {x = a + 0} {y = a} (omega arith) ∙ total-zero f a e
  total-from f a (suc m) e = ap (total R f) {x = a + suc m} {y = suc (a + m)} (omega arith) ∙ ap (λ u. f (a + m) ⊕ u) (total-from f a m e)

  pub total_range : (f : ℕ → Car) (a b n : ℕ) → b ≤ n → ((i : ℕ) → i < a → f i ≡ 𝟘) → ((i : ℕ) → b ≤ i → i < n → f i ≡ 𝟘) → total R f n ≡ total R (λ i. f (a + i)) (b - a)
  total_range f a b n h low high = total_cut f b n h high ∙ go (dec_le a b)
    where
      go : Dec (a ≤ b) → total R f b ≡ total R (λ i. f (a + i)) (b - a)
      go (yes l) = ap (total R f) {x = b} {y = a + (b - a)} (omega arith) ∙ total-from f a (b - a) low
      go (no l) = total-zero f b (λ i c. low i (omega arith)) ∙ sym (ap (total R (λ i. f (a + i))) {x = b - a} {y = 0} (omega arith))
