-- Coefficients by pole number.
--   coefficient-pole   at the pole number of x^i·y^j it is the coefficient of x^i·y^j
--   coefficient-gap    at a gap it is 0
--   coefficient_ext    elements with the same coefficients are equal
--   coefficient-zero coefficient-add coefficient-neg coefficient-constant-mul     it is linear
--   coefficient-vector the coefficients of vector f are f
--   coefficient-x-low, coefficient-x-high     x moves coefficients by 3
--   pick_true, pick_false      the two values of pick
use mathlib.Core.Path.{◌≡◌, refl, sym, ◌∙◌, ap, ap₂}
use mathlib.Core.Bool.{Bool, true, false}
use mathlib.Core.Logic.{inl, inr}
use Prim.Native.Nat.{ℕ, zero, suc, ◌+◌, ◌*◌, ◌≤◌, ◌<◌}
use native.Mathlib.Omega.{arith}
use lib.Dec.{T, leb, le→leb, leb→le}
use Rattle.algebra.specs.Ring.{CommRing}
use Rattle.algebra.proofs.Laws as L
use Rattle.polynomial.specs.Poly.{Poly, coef}
use Rattle.polynomial.proofs.Coef as P
use Rattle.ideal.specs.Poles.{IsGap, IsPole}
use Rattle.curve.proofs.Component as M
use Rattle.curve.specs.Curve.{Curve, t0, t1, t2, Coordinate, x, constant, part, at}
use Rattle.curve.proofs.Coefficient.{at_ext, at_zero, at-add, at-neg, at-constant-mul, at_x-first, at_x-next}
use Rattle.curve.specs.Pole.{pole, x_power, y_power}
use Rattle.curve.proofs.Pole.{pole-x, pole-y, Located, place, gap, locate}
use Rattle.curve.specs.Sequence.{coefficient, pick, vector}

pub pick_true : {A : Type 0} (b : Bool) (u v : A) → T b → pick b u v ≡ u
pick_true true u v t = refl
pick_true false u v t = absurd t

pub pick_false : {A : Type 0} (b : Bool) (u v : A) → ¬ T b → pick b u v ≡ v
pick_false true u v t = absurd (t tt)
pick_false false u v t = refl

gap-high : (n : ℕ) → IsGap n → ¬ T (leb (4 * y_power n) n)
gap-high n (inl e) t = let h : 4 * y_power n ≤ n = leb→le _ _ t in omega arith
gap-high n (inr (inl e)) t = let h : 4 * y_power n ≤ n = leb→le _ _ t in omega arith
gap-high n (inr (inr e)) t = let h : 4 * y_power n ≤ n = leb→le _ _ t in omega arith

module _ {k : CommRing} (C : Curve k) where
  open k use {Car, zero as 𝟘, one as 𝟙, add as ◌+ₖ◌, mul as ◌·ₖ◌, neg as -ₖ◌}
  open Coordinate C use {Car as El, zero as 𝟎, one as 𝟏, add as ◌⊕◌, mul as ◌⊗◌, neg as ⊖◌}

  infixl 60 ◌⊕◌ ◌+ₖ◌
  infixl 70 ◌⊗◌ ◌·ₖ◌
  infix 80 ⊖◌ -ₖ◌
  pub coefficient-pole : (i j : ℕ) → j ≤ 2 → (g : El) → coefficient C (pole i j) g ≡ at C i j g
  unfolding coefficient
  coefficient-pole i j h g =
      let ey : y_power (pole i j) ≡ j = pole-y i j h in
      pick_true (leb (4 * y_power (pole i j)) (pole i j)) (at C (x_power (pole i j)) (y_power (pole i j)) g) 𝟘
      (le→leb (4 * y_power (pole i j)) (pole i j) (omega arith)) ∙ ap₂ (λ a b. at C a b g) (pole-x i j h) ey

  pub coefficient-gap : (n : ℕ) → IsGap n → (g : El) → coefficient C n g ≡ 𝟘
  unfolding coefficient
  coefficient-gap n h g = pick_false (leb (4 * y_power n) n) (at C (x_power n) (y_power n) g) 𝟘 (gap-high n h)

  pub coefficient_ext : {g h : El} → ((n : ℕ) → coefficient C n g ≡ coefficient C n h) → g ≡ h
  coefficient_ext {g} {h} e =
      at_ext C (λ i j l. sym (coefficient-pole i j l g) ∙ e (pole i j) ∙ coefficient-pole i j l h)

  pub coefficient-zero : (n : ℕ) → coefficient C n 𝟎 ≡ 𝟘
  unfolding coefficient
  coefficient-zero n = go (leb (4 * y_power n) n)
    where
      go : (b : Bool) → pick b (at C (x_power n) (y_power n) 𝟎) 𝟘 ≡ 𝟘
      go true = at_zero C _ _
      go false = refl

  pub coefficient-add : (n : ℕ) (g h : El) → coefficient C n (g ⊕ h) ≡ coefficient C n g +ₖ coefficient C n h
  unfolding coefficient
  coefficient-add n g h = go (leb (4 * y_power n) n)
    where
      go : (b : Bool) → pick b (at C (x_power n) (y_power n) (g ⊕ h)) 𝟘 ≡ pick b (at C (x_power n) (y_power n) g) 𝟘 +ₖ pick b (at C (x_power n) (y_power n) h) 𝟘
      go true = at-add C _ _ g h
      go false = sym (k.add_zero 𝟘)

  pub coefficient-neg : (n : ℕ) (g : El) → coefficient C n (⊖ g) ≡ -ₖ coefficient C n g
  unfolding coefficient
  coefficient-neg n g = go (leb (4 * y_power n) n)
    where
      go : (b : Bool) → pick b (at C (x_power n) (y_power n) (⊖ g)) 𝟘 ≡ -ₖ pick b (at C (x_power n) (y_power n) g) 𝟘
      go true = at-neg C _ _ g
      go false = sym (L.neg-zero k)

  pub coefficient-constant-mul : (n : ℕ) (c : Car) (g : El) → coefficient C n (constant C c ⊗ g) ≡ c ·ₖ coefficient C n g
  unfolding coefficient
  coefficient-constant-mul n c g = go (leb (4 * y_power n) n)
    where
      go : (b : Bool) → pick b (at C (x_power n) (y_power n) (constant C c ⊗ g)) 𝟘 ≡ c ·ₖ pick b (at C (x_power n) (y_power n) g) 𝟘
      go true = at-constant-mul C c _ _ g
      go false = sym (L.mul-zero k c)

  at-vector : (f : ℕ → Car) (N : ℕ) (h : (n : ℕ) → N ≤ n → f n ≡ 𝟘) (i j : ℕ) → j ≤ 2 → at C i j (vector C f N h) ≡ f (pole i j)
  unfolding Coordinate part at vector
  at-vector f N h i zero l = ap (λ p. coef k p i) (M.component-triple_0 (Poly k) (t0 C) (t1 C) (t2 C) _ _ _) ∙ P.coef-poly k _ _ i
  at-vector f N h i (suc zero) l = ap (λ p. coef k p i) (M.component-triple_1 (Poly k) (t0 C) (t1 C) (t2 C) _ _ _) ∙ P.coef-poly k _ _ i
  at-vector f N h i (suc (suc zero)) l =
      ap (λ p. coef k p i) (M.component-triple_2 (Poly k) (t0 C) (t1 C) (t2 C) _ _ _) ∙ P.coef-poly k _ _ i
  at-vector f N h i (suc (suc (suc j))) l = absurd (omega arith)

  pub coefficient-vector : (f : ℕ → Car) (N : ℕ) (h : (n : ℕ) → N ≤ n → f n ≡ 𝟘) (n : ℕ) → IsPole n → coefficient C n (vector C f N h) ≡ f n
  coefficient-vector f N h n p = go (locate n)
    where
      go : Located n → coefficient C n (vector C f N h) ≡ f n
      go (place i j l e) = rw e (coefficient-pole i j l (vector C f N h) ∙ at-vector f N h i j l)
      go (gap d) = absurd (p d)

  pub coefficient-x-low : (n : ℕ) → n < 3 → (g : El) → coefficient C n (x C ⊗ g) ≡ 𝟘
  coefficient-x-low zero h g = coefficient-pole 0 0 (omega arith) (x C ⊗ g) ∙ at_x-first C 0 g
  coefficient-x-low (suc zero) h g = coefficient-gap 1 (inl refl) (x C ⊗ g)
  coefficient-x-low (suc (suc zero)) h g = coefficient-gap 2 (inr (inl refl)) (x C ⊗ g)
  coefficient-x-low (suc (suc (suc n))) h g = absurd (omega arith)

  pub coefficient-x-high : (n : ℕ) (g : El) → coefficient C (3 + n) (x C ⊗ g) ≡ coefficient C n g
  coefficient-x-high n g = go (locate n)
    where
      up : (m : ℕ) → 3 + n ≡ m → coefficient C m (x C ⊗ g) ≡ 𝟘 → IsGap n → coefficient C (3 + n) (x C ⊗ g) ≡ coefficient C n g
      up m e z d = ap (λ l. coefficient C l (x C ⊗ g)) e ∙ z ∙ sym (coefficient-gap n d g)

      go : Located n → coefficient C (3 + n) (x C ⊗ g) ≡ coefficient C n g
      go (place i j l e) =
          let e' : 3 + n ≡ pole (suc i) j = omega arith in
          ap (λ m. coefficient C m (x C ⊗ g)) e'
          ∙ coefficient-pole (suc i) j l (x C ⊗ g)
          ∙ at_x-next C i j g
          ∙ sym (coefficient-pole i j l g)
          ∙ ap (λ m. coefficient C m g) (sym e)
      go (gap (inl d)) =
          up (pole 0 1) (omega arith) (coefficient-pole 0 1 (omega arith) (x C ⊗ g) ∙ at_x-first C 1 g) (inl d)
      go (gap (inr (inl d))) = up 5 (omega arith) (coefficient-gap 5 (inr (inr refl)) (x C ⊗ g)) (inr (inl d))
      go (gap (inr (inr d))) =
          up (pole 0 2) (omega arith) (coefficient-pole 0 2 (omega arith) (x C ⊗ g) ∙ at_x-first C 2 g) (inr (inr d))
