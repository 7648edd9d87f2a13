-- Multiples by x^i, and elements that differ at one pole number.
--   shift-high, shift-low          x^i moves coefficients by 3·i
--   vector_step        one more coefficient adds a multiple of x^i·y^j
use mathlib.Core.Path.{◌≡◌, sym, ◌∙◌, ap, ap₂}
use Prim.Native.Nat.{ℕ, zero, suc, ◌+◌, ◌*◌, ◌-◌, ◌≤◌, ◌<◌}
use native.Mathlib.Omega.{arith}
use native.Mathlib.Decide.{ℕ_discrete, dec_lt}
use Rattle.algebra.specs.Ring.{CommRing}
use Rattle.algebra.proofs.Laws as L
use Rattle.ideal.specs.Poles.{IsPole}
use Rattle.curve.specs.Curve.{Curve, Coordinate, x, y, constant}
use Rattle.curve.specs.Pole.{pole}
use Rattle.curve.proofs.Pole.{Located, place, gap, locate}
use Rattle.curve.specs.Monomial.{power, monomial}
use Rattle.curve.specs.Sequence.{coefficient, vector}
use Rattle.curve.proofs.Term.{coefficient-pole, coefficient-gap, coefficient-add, coefficient-constant-mul, coefficient-vector, coefficient-x-low, coefficient-x-high}
use Rattle.curve.proofs.Monomial.{at-monomial-same, at-monomial-other}
use Rattle.curve.proofs.Vector.{vector-is}

module _ {k : CommRing} (C : Curve k) where
  open k use {Car, zero as 𝟘, one as 𝟙, add as ◌+ₖ◌, mul as ◌·ₖ◌}
  open Coordinate C use {Car as El, add as ◌⊕◌, mul as ◌⊗◌}

  infixl 60 ◌⊕◌ ◌+ₖ◌
  infixl 70 ◌⊗◌ ◌·ₖ◌
  abbrev x_to : ℕ → El
  x_to i = power (Coordinate C) (x C) i

  abbrev y_to : ℕ → El
  y_to j = power (Coordinate C) (y C) j

  step_number : (i n : ℕ) → 3 * suc i + n ≡ 3 + (3 * i + n)
  step_number i n = omega arith

  no_steps : (n : ℕ) → 3 * 0 + n ≡ n
  no_steps n = omega arith

  pub shift-high : (i n : ℕ) (g : El) → coefficient C (3 * i + n) (x_to i ⊗ g) ≡ coefficient C n g
  unfolding power
  shift-high zero n g = ap₂ (coefficient C) (no_steps n) (L.one-mul (Coordinate C) g)
  shift-high (suc i) n g =
      ap₂ (coefficient C) (step_number i n) ((Coordinate C).mul_assoc _ _ _)
      ∙ coefficient-x-high C (3 * i + n) (x_to i ⊗ g)
      ∙ shift-high i n g

  pub shift-low : (i n : ℕ) (g : El) → n < 3 * i → coefficient C n (x_to i ⊗ g) ≡ 𝟘
  unfolding power
  shift-low zero n g h = absurd (omega arith)
  shift-low (suc i) n g h =
      ap (coefficient C n) ((Coordinate C).mul_assoc _ _ _) ∙ go (dec_lt n 3) (shift-low i (n - 3) g)
    where
      go : Dec (n < 3) → (n - 3 < 3 * i → coefficient C (n - 3) (x_to i ⊗ g) ≡ 𝟘) → coefficient C n (x C ⊗ (x_to i ⊗ g)) ≡ 𝟘
      go (yes l) r = coefficient-x-low C n l (x_to i ⊗ g)
      go (no l) r =
          ap (λ m. coefficient C m (x C ⊗ (x_to i ⊗ g))) {x = n} {y = 3 + (n - 3)} (omega arith)
          ∙ coefficient-x-high C (n - 3) (x_to i ⊗ g)
          ∙ r (omega arith)

  monomial-same : (i j : ℕ) → j ≤ 2 → coefficient C (pole i j) (x_to i ⊗ y_to j) ≡ 𝟙
  unfolding monomial
  monomial-same i j h = coefficient-pole C i j h _ ∙ at-monomial-same C i j h

  monomial-other : (i j n : ℕ) → j ≤ 2 → ¬ (n ≡ pole i j) → coefficient C n (x_to i ⊗ y_to j) ≡ 𝟘
  unfolding monomial
  monomial-other i j n h d = go (locate n)
    where
      go : Located n → coefficient C n (x_to i ⊗ y_to j) ≡ 𝟘
      go (place a b l e) =
          ap (λ m. coefficient C m (x_to i ⊗ y_to j)) e
          ∙ coefficient-pole C a b l _
          ∙ at-monomial-other C i j a b h l (λ q. d (e ∙ sym q))
      go (gap q) = coefficient-gap C n q _

  module _ (f : ℕ → Car) (N : ℕ) (z : (n : ℕ) → N ≤ n → f n ≡ 𝟘) (f' : ℕ → Car) (N' : ℕ) (z' : (n : ℕ) → N' ≤ n → f' n ≡ 𝟘) where
    pub vector_step : (i j : ℕ) → j ≤ 2 → f (pole i j) ≡ 𝟘 → ((n : ℕ) → IsPole n → ¬ (n ≡ pole i j) → f' n ≡ f n) → vector C f' N' z' ≡ vector C f N z ⊕ constant C (f' (pole i j)) ⊗ (x_to i ⊗ y_to j)
    vector_step i j h e s = sym (vector-is C f' N' z' _ (λ n q. right n q ∙ sym (same n q (ℕ_discrete n (pole i j)))))
      where
        right : (n : ℕ) → IsPole n → coefficient C n (vector C f N z ⊕ constant C (f' (pole i j)) ⊗ (x_to i ⊗ y_to j)) ≡ f n +ₖ f' (pole i j) ·ₖ coefficient C n (x_to i ⊗ y_to j)
        right n q =
            coefficient-add C n _ _
            ∙ ap₂ ◌+ₖ◌ (coefficient-vector C f N z n q) (coefficient-constant-mul C n (f' (pole i j)) (x_to i ⊗ y_to j))

        same : (n : ℕ) → IsPole n → Dec (n ≡ pole i j) → f' n ≡ f n +ₖ f' (pole i j) ·ₖ coefficient C n (x_to i ⊗ y_to j)
        same n q (yes d) =
            ap f' d
            ∙ sym (L.zero-add k _ ∙ k.mul_one _)
            ∙ ap₂ (λ u v. u +ₖ f' (pole i j) ·ₖ v) (sym e) (sym (monomial-same i j h))
            ∙ ap (λ m. f m +ₖ f' (pole i j) ·ₖ coefficient C m (x_to i ⊗ y_to j)) (sym d)
        same n q (no d) =
            s n q d
            ∙ sym (ap (λ u. f n +ₖ u) (ap (λ u. f' (pole i j) ·ₖ u) (monomial-other i j n h d) ∙ L.mul-zero k _) ∙ k.add_zero _)
