-- Power series over a commutative ring A: sequences of coefficients. Example: 1 + x is 1, 1, 0, 0, …
--   Series A           ℕ → A
--   tail a             a without its constant coefficient, divided by the variable
--   product a b        the product: (ab)₀ = a₀·b₀ and (ab)ₙ₊₁ = a₀·bₙ₊₁ + ((tail a)·b)ₙ
--   constant k         k, 0, 0, …
--   shift a            the variable times a: 0, a₀, a₁, …
--   Bound a n          the coefficients of a are 0 from n on
--   Finite a           a has some bound; a proposition
use Rattle.std.specs.Prelude.{◌≡◌, ℕ, zero, suc, ◌≤◌}
use Rattle.algebra.specs.Ring.{CommRing}

module _ (A : CommRing) where
  open A use {Car, zero as 𝟘, add as ◌⊕◌, mul as ◌⊗◌}

  infixl 60 ◌⊕◌
  infixl 70 ◌⊗◌
  abbrev pub Series : Type 0
  Series = ℕ → Car

  abbrev pub tail : Series → Series
  tail a i = a (suc i)

  unfoldable pub product : Series → Series → Series
  product a b zero = a zero ⊗ b zero
  product a b (suc n) = a zero ⊗ b (suc n) ⊕ product (tail a) b n

  unfoldable pub constant : Car → Series
  constant k zero = k
  constant k (suc n) = 𝟘

  unfoldable pub shift : Series → Series
  shift a zero = 𝟘
  shift a (suc n) = a n

  abbrev pub Bound : Series → ℕ → Type 0
  Bound a n = (i : ℕ) → n ≤ i → a i ≡ 𝟘

  abbrev pub Finite : Series → Type 0
  Finite a = ∥ ((n : ℕ) × Bound a n) ∥₁
