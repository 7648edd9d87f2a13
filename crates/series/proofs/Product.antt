-- The laws of the product of power series, each at every index, by induction on the index.
--   product-head product-next constant-head constant-next shift-next     the clauses of the definitions as equations, for rewriting
--   product_next'          the recursion from the other side: (ab)ₙ₊₁ = aₙ₊₁·b₀ + (a·tail b)ₙ
--   product_comm product_assoc product-one product-add add-product       the ring laws
--   product-scale          (k·a)·b = k·(a·b)
--   constant-product       the constant k times b is k·b
--   zero-product           a series of zeros times b is zero
use mathlib.Core.Path.{◌≡◌, refl, sym, ◌∙◌, ap, ap₂}
use Prim.Native.Nat.{ℕ, zero, suc}
use Rattle.algebra.specs.Ring.{CommRing}
use Rattle.algebra.proofs.Laws.{add_left_comm, swap_add, zero-mul}
use Rattle.series.specs.Series.{Series, tail, product, constant, shift}

module _ (A : CommRing) where
  open A use {Car, zero as 𝟘, add as ◌⊕◌, mul as ◌⊗◌}

  infixl 60 ◌⊕◌
  infixl 70 ◌⊗◌
  pub product-head : (a b : Series A) → product A a b zero ≡ a zero ⊗ b zero
  unfolding product
  product-head a b = refl

  pub product-next : (a b : Series A) (n : ℕ) → product A a b (suc n) ≡ a zero ⊗ b (suc n) ⊕ product A (tail A a) b n
  unfolding product
  product-next a b n = refl

  pub constant-head : (k : Car) → constant A k zero ≡ k
  unfolding constant
  constant-head k = refl

  pub constant-next : (k : Car) (n : ℕ) → constant A k (suc n) ≡ 𝟘
  unfolding constant
  constant-next k n = refl

  pub shift-next : (a : Series A) (n : ℕ) → shift A a (suc n) ≡ a n
  unfolding shift
  shift-next a n = refl

module _ (A : CommRing) where
  open A use {Car, zero as 𝟘, one as 𝟙, add as ◌⊕◌, mul as ◌⊗◌, add_comm, add_assoc, add_zero, mul_comm, mul_assoc, mul_one, mul_add}

  infixl 60 ◌⊕◌
  infixl 70 ◌⊗◌
  pub product_next' : (a b : Series A) (n : ℕ) → product A a b (suc n) ≡ a (suc n) ⊗ b zero ⊕ product A a (tail A b) n
  product_next' a b zero =
      product-next A a b zero ∙ ap (λ t. a zero ⊗ b (suc zero) ⊕ t) (product-head A (tail A a) b) ∙ add_comm _ _
      ∙ ap (λ t. a (suc zero) ⊗ b zero ⊕ t) (sym (product-head A a (tail A b)))
  product_next' a b (suc n) =
      product-next A a b (suc n) ∙ ap (λ t. a zero ⊗ b (suc (suc n)) ⊕ t) (product_next' (tail A a) b n)
      ∙ add_left_comm A _ _ _ ∙ ap (λ t. a (suc (suc n)) ⊗ b zero ⊕ t) (sym (product-next A a (tail A b) n))

  pub product_comm : (a b : Series A) (n : ℕ) → product A a b n ≡ product A b a n
  product_comm a b zero = product-head A a b ∙ mul_comm _ _ ∙ sym (product-head A b a)
  product_comm a b (suc n) = product-next A a b n ∙ ap₂ ◌⊕◌ (mul_comm _ _) (product_comm (tail A a) b n) ∙ sym (product_next' b a n)

  pub product-add : (a b c : Series A) (n : ℕ) → product A a (λ i. b i ⊕ c i) n ≡ product A a b n ⊕ product A a c n
  product-add a b c zero = product-head A a _ ∙ mul_add _ _ _ ∙ ap₂ ◌⊕◌ (sym (product-head A a b)) (sym (product-head A a c))
  product-add a b c (suc n) =
      product-next A a _ n ∙ ap₂ ◌⊕◌ (mul_add _ _ _) (product-add (tail A a) b c n) ∙ swap_add A _ _ _ _
      ∙ ap₂ ◌⊕◌ (sym (product-next A a b n)) (sym (product-next A a c n))

  pub product-scale : (k : Car) (a b : Series A) (n : ℕ) → product A (λ i. k ⊗ a i) b n ≡ k ⊗ product A a b n
  product-scale k a b zero = product-head A _ b ∙ mul_assoc _ _ _ ∙ ap (λ t. k ⊗ t) (sym (product-head A a b))
  product-scale k a b (suc n) =
      product-next A _ b n ∙ ap₂ ◌⊕◌ (mul_assoc _ _ _) (product-scale k (tail A a) b n) ∙ sym (mul_add _ _ _)
      ∙ ap (λ t. k ⊗ t) (sym (product-next A a b n))

  pub add-product : (a b c : Series A) (n : ℕ) → product A (λ i. a i ⊕ b i) c n ≡ product A a c n ⊕ product A b c n
  add-product a b c n = product_comm _ c n ∙ product-add c a b n ∙ ap₂ ◌⊕◌ (product_comm c a n) (product_comm c b n)

  -- tail (ab) is a₀·tail b + (tail a)·b, so that its product with c is found from the smaller ones.
  tail-product : (a b c : Series A) (n : ℕ) → product A (tail A (product A a b)) c n ≡ a zero ⊗ product A (tail A b) c n ⊕ product A (product A (tail A a) b) c n
  unfolding product
  tail-product a b c n = add-product (λ i. a zero ⊗ b (suc i)) (product A (tail A a) b) c n ∙ ap (λ t. t ⊕ product A (product A (tail A a) b) c n) (product-scale (a zero) (tail A b) c n)

  assoc_step : {x y z u v : Car} → (x ⊗ y) ⊗ z ⊕ (x ⊗ u ⊕ v) ≡ x ⊗ (y ⊗ z ⊕ u) ⊕ v
  assoc_step {x} {y} {z} {u} {v} = sym (add_assoc _ _ _) ∙ ap (λ t. t ⊕ v) (ap (λ t. t ⊕ x ⊗ u) (mul_assoc x y z) ∙ sym (mul_add _ _ _))

  pub product_assoc : (a b c : Series A) (n : ℕ) → product A (product A a b) c n ≡ product A a (product A b c) n
  product_assoc a b c zero =
      product-head A _ c ∙ ap (λ t. t ⊗ c zero) (product-head A a b) ∙ mul_assoc _ _ _ ∙ ap (λ t. a zero ⊗ t) (sym (product-head A b c)) ∙ sym (product-head A a _)
  product_assoc a b c (suc n) =
      product-next A _ c n ∙ ap₂ ◌⊕◌ (ap (λ t. t ⊗ c (suc n)) (product-head A a b)) (tail-product a b c n ∙ ap (λ t. a zero ⊗ product A (tail A b) c n ⊕ t) (product_assoc (tail A a) b c n))
      ∙ assoc_step ∙ ap (λ t. a zero ⊗ t ⊕ product A (tail A a) (product A b c) n) (sym (product-next A b c n)) ∙ sym (product-next A a _ n)

  pub zero-product : (a b : Series A) → ((i : ℕ) → a i ≡ 𝟘) → (n : ℕ) → product A a b n ≡ 𝟘
  zero-product a b h zero = product-head A a b ∙ ap (λ t. t ⊗ b zero) (h zero) ∙ zero-mul A _
  zero-product a b h (suc n) =
      product-next A a b n ∙ ap₂ ◌⊕◌ (ap (λ t. t ⊗ b (suc n)) (h zero) ∙ zero-mul A _) (zero-product (tail A a) b (λ i. h (suc i)) n) ∙ add_zero 𝟘

  pub constant-product : (k : Car) (b : Series A) (n : ℕ) → product A (constant A k) b n ≡ k ⊗ b n
  constant-product k b zero = product-head A _ b ∙ ap (λ t. t ⊗ b zero) (constant-head A k)
  constant-product k b (suc n) =
      product-next A _ b n ∙ ap₂ ◌⊕◌ (ap (λ t. t ⊗ b (suc n)) (constant-head A k)) (zero-product (tail A (constant A k)) b (constant-next A k) n) ∙ add_zero _

  pub product-one : (a : Series A) (n : ℕ) → product A a (constant A 𝟙) n ≡ a n
  product-one a n = product_comm a _ n ∙ constant-product 𝟙 a n ∙ mul_comm _ _ ∙ mul_one _
