-- The coefficients of normal monomials.
--   at-y_0_straight at-y_1_straight at-y_2_straight    of y·u where u has no y²: y moves them up
--   at-monomial-same, at-monomial-other        x^i·y^j has the coefficient 1 at x^i·y^j and 0 elsewhere
--   coefficient-mono-other                     mono n has no coefficient but that at n
use mathlib.Core.Path.{◌≡◌, refl, sym, ◌∙◌, ap, ap₂}
use mathlib.Core.List.{[], ◌∷◌}
use Prim.Native.Nat.{ℕ, zero, suc, ◌+◌, ◌-◌, ◌≤◌, ◌<◌}
use native.Mathlib.Omega.{arith}
use native.Mathlib.Decide.{dec_le, ℕ_discrete}
use Rattle.algebra.specs.Ring.{CommRing}
use Rattle.algebra.proofs.Laws as L
use Rattle.ideal.specs.Poles.{IsPole}
use Rattle.curve.specs.Curve.{Curve, Coordinate, x, y, at}
use Rattle.curve.proofs.Back.{weigh_vanish}
use Rattle.curve.proofs.Coefficient.{at-one_0, at-one-x, at-one-y, at_x-first, at_x-next, at-y_0, at-y_1, at-y_2}
use Rattle.curve.specs.Pole.{pole}
use Rattle.curve.proofs.Pole.{Located, place, gap, locate}
use Rattle.curve.specs.Sequence.{coefficient}
use Rattle.curve.specs.Monomial.{power, monomial, mono}
use Rattle.curve.proofs.Term.{coefficient-pole, coefficient-gap}
use Rattle.curve.proofs.Product.{mono-monomial}

module _ {k : CommRing} (C : Curve k) where
  open k use {Car, zero as 𝟘, one as 𝟙, add as ◌+ₖ◌, mul as ◌·ₖ◌, neg as -ₖ◌}
  open Coordinate C use {Car as El, zero as 𝟎, one as 𝟏, add as ◌⊕◌, mul as ◌⊗◌}

  infixl 60 ◌⊕◌ ◌+ₖ◌
  infixl 70 ◌⊗◌ ◌·ₖ◌
  infix 80 -ₖ◌
  less_none : (a b : Car) → b ≡ 𝟘 → a +ₖ -ₖ b ≡ a
  less_none a b e = cc (e, L.neg-zero k, k.add_zero a)

  module _ (u : El) (none : (i : ℕ) → at C i 2 u ≡ 𝟘) where
    pub at-y_0_straight : (i : ℕ) → at C i 0 (y C ⊗ u) ≡ 𝟘
    at-y_0_straight i =
        at-y_0 C i u
        ∙ ap -ₖ◌ (weigh_vanish k 0 (C.c0 ∷ C.c1 ∷ C.c3 ∷ C.c6 ∷ C.a0 ∷ []) (λ m. at C m 2 u) i (λ m h. none m))
        ∙ L.neg-zero k

    pub at-y_1_straight : (i : ℕ) → at C i 1 (y C ⊗ u) ≡ at C i 0 u
    at-y_1_straight i =
        at-y_1 C i u ∙ less_none _ _ (weigh_vanish k 0 (C.c2 ∷ C.c4 ∷ C.c7 ∷ []) (λ m. at C m 2 u) i (λ m h. none m))

    pub at-y_2_straight : (i : ℕ) → at C i 2 (y C ⊗ u) ≡ at C i 1 u
    at-y_2_straight i =
        at-y_2 C i u ∙ less_none _ _ (weigh_vanish k 0 (C.c5 ∷ C.c8 ∷ []) (λ m. at C m 2 u) i (λ m h. none m))

  -- no y² in 1 and in y
  one_none : (i : ℕ) → at C i 2 𝟏 ≡ 𝟘
  one_none i = at-one-y C i 1

  y_none : (i : ℕ) → at C i 2 (y C ⊗ 𝟏) ≡ 𝟘
  y_none i = at-y_2_straight 𝟏 one_none i ∙ at-one-y C i 0

  y_power-same : (j i : ℕ) → j ≤ 2 → at C i j (power (Coordinate C) (y C) j) ≡ at C i 0 𝟏
  unfolding power
  y_power-same zero i l = refl
  y_power-same (suc zero) i l = at-y_1_straight 𝟏 one_none i
  y_power-same (suc (suc zero)) i l = at-y_2_straight (y C ⊗ 𝟏) y_none i ∙ at-y_1_straight 𝟏 one_none i
  y_power-same (suc (suc (suc j))) i l = absurd (omega arith)

  y_power-other : (j j' i : ℕ) → j ≤ 2 → j' ≤ 2 → ¬ (j ≡ j') → at C i j' (power (Coordinate C) (y C) j) ≡ 𝟘
  unfolding power
  y_power-other zero zero i l l' n = absurd (n refl)
  y_power-other zero (suc j') i l l' n = at-one-y C i j'
  y_power-other (suc zero) zero i l l' n = at-y_0_straight 𝟏 one_none i
  y_power-other (suc zero) (suc zero) i l l' n = absurd (n refl)
  y_power-other (suc zero) (suc (suc zero)) i l l' n = y_none i
  y_power-other (suc zero) (suc (suc (suc j'))) i l l' n = absurd (omega arith)
  y_power-other (suc (suc zero)) zero i l l' n = at-y_0_straight (y C ⊗ 𝟏) y_none i
  y_power-other (suc (suc zero)) (suc zero) i l l' n = at-y_1_straight (y C ⊗ 𝟏) y_none i ∙ at-y_0_straight 𝟏 one_none i
  y_power-other (suc (suc zero)) (suc (suc zero)) i l l' n = absurd (n refl)
  y_power-other (suc (suc zero)) (suc (suc (suc j'))) i l l' n = absurd (omega arith)
  y_power-other (suc (suc (suc j))) j' i l l' n = absurd (omega arith)

  at-one-other : (i : ℕ) → ¬ (i ≡ 0) → at C i 0 𝟏 ≡ 𝟘
  at-one-other zero n = absurd (n refl)
  at-one-other (suc i) n = at-one-x C i

  x_power-at : (i i' j : ℕ) (v : El) → at C (i + i') j (power (Coordinate C) (x C) i ⊗ v) ≡ at C i' j v
  unfolding power
  x_power-at zero i' j v = ap₂ (λ a b. at C a j b) (omega arith) (L.one-mul (Coordinate C) v)
  x_power-at (suc i) i' j v =
      ap₂ (λ a b. at C a j b) (omega arith) ((Coordinate C).mul_assoc (x C) (power (Coordinate C) (x C) i) v)
      ∙ at_x-next C (i + i') j (power (Coordinate C) (x C) i ⊗ v)
      ∙ x_power-at i i' j v

  x_power-low : (i i' j : ℕ) (v : El) → i' < i → at C i' j (power (Coordinate C) (x C) i ⊗ v) ≡ 𝟘
  unfolding power
  x_power-low zero i' j v l = absurd (omega arith)
  x_power-low (suc i) zero j v l = ap (at C 0 j) ((Coordinate C).mul_assoc _ _ _) ∙ at_x-first C j _
  x_power-low (suc i) (suc i') j v l =
      ap (at C (suc i') j) ((Coordinate C).mul_assoc _ _ _) ∙ at_x-next C i' j _ ∙ x_power-low i i' j v (omega arith)

  pub at-monomial-same : (i j : ℕ) → j ≤ 2 → at C i j (monomial C i j) ≡ 𝟙
  unfolding monomial
  at-monomial-same i j l =
      ap (λ a. at C a j (monomial C i j)) (omega arith)
      ∙ x_power-at i 0 j (power (Coordinate C) (y C) j)
      ∙ y_power-same j 0 l
      ∙ at-one_0 C

  pub at-monomial-other : (i j i' j' : ℕ) → j ≤ 2 → j' ≤ 2 → ¬ (pole i j ≡ pole i' j') → at C i' j' (monomial C i j) ≡ 𝟘
  unfolding monomial
  at-monomial-other i j i' j' l l' n = go (dec_le i i') (ℕ_discrete j j')
    where
      high : Dec (j ≡ j') → (d : ℕ) → i' ≡ i + d → at C d j' (power (Coordinate C) (y C) j) ≡ 𝟘
      high (yes e) d q =
          ap (λ a. at C d a (power (Coordinate C) (y C) j)) (sym e)
          ∙ y_power-same j d l
          ∙ at-one-other d (λ z. n (omega arith))
      high (no u) d q = y_power-other j j' d l l' u

      go : Dec (i ≤ i') → Dec (j ≡ j') → at C i' j' (monomial C i j) ≡ 𝟘
      go (yes h) d =
          ap (λ a. at C a j' (monomial C i j)) (omega arith)
          ∙ x_power-at i (i' - i) j' (power (Coordinate C) (y C) j)
          ∙ high d (i' - i) (omega arith)
      go (no h) d = x_power-low i i' j' (power (Coordinate C) (y C) j) (omega arith)

  pub coefficient-mono-other : (m n : ℕ) → IsPole n → ¬ (m ≡ n) → coefficient C m (mono C n) ≡ 𝟘
  coefficient-mono-other m n p u = go (locate m) (locate n)
    where
      go : Located m → Located n → coefficient C m (mono C n) ≡ 𝟘
      go (gap d) w = coefficient-gap C m d (mono C n)
      go (place i' j' l' e') (gap d) = absurd (p d)
      go (place i' j' l' e') (place i j l e) =
          ap₂ (coefficient C) e' (ap (mono C) e ∙ mono-monomial C i j l)
          ∙ coefficient-pole C i' j' l' (monomial C i j)
          ∙ at-monomial-other i j i' j' l l' (λ q. u (e' ∙ sym q ∙ sym e))
