-- The filtration of the coordinate ring by pole numbers, and what multiplication by x and y does to it.
--   below-coefficient, coefficient-below     Below n g says that the coefficients of g from n on are 0
--   below_zero below_add below-neg below-constant-mul below_more below_none      Below n is closed under these
--   below_gap          there is no monomial at a gap
--   below_step         Below (n + 1) g and no coefficient at n give Below n g
--   below-x            x raises pole numbers by 3
--   below-y            y raises them by 4: what −(t2·y² + t1·y + t0) for y³ brings in is not higher
use mathlib.Core.Path.{◌≡◌, sym, ◌∙◌, ap, ap₂}
use mathlib.Core.List.{[], ◌∷◌}
use Prim.Native.Nat.{ℕ, zero, suc, ◌+◌, ◌≤◌}
use native.Mathlib.Omega.{arith}
use native.Mathlib.Decide.{ℕ_discrete}
use Rattle.algebra.specs.Ring.{CommRing}
use Rattle.algebra.proofs.Laws as L
use Rattle.ideal.specs.Poles.{IsGap}
use Rattle.curve.specs.Curve.{Curve, Coordinate, x, y, constant, at}
use Rattle.curve.proofs.Back.{weigh_vanish}
use Rattle.curve.proofs.Coefficient.{at_ext, at_zero, at-add, at-neg, at-constant-mul, at_x-first, at_x-next, at-y_0, at-y_1, at-y_2}
use Rattle.curve.specs.Pole.{pole}
use Rattle.curve.proofs.Pole.{Located, place, gap, locate}
use Rattle.curve.specs.Monomial.{Below}
use Rattle.curve.specs.Sequence.{coefficient}
use Rattle.curve.proofs.Term.{coefficient-pole, coefficient-gap}

module _ {k : CommRing} (C : Curve k) where
  open k use {Car, zero as 𝟘, one as 𝟙, add as ◌+ₖ◌, mul as ◌·ₖ◌, neg as -ₖ◌}
  open Coordinate C use {Car as El, zero as 𝟎, one as 𝟏, add as ◌⊕◌, mul as ◌⊗◌, neg as ⊖◌}

  infixl 60 ◌⊕◌ ◌+ₖ◌
  infixl 70 ◌⊗◌ ◌·ₖ◌
  infix 80 ⊖◌ -ₖ◌
  pub below-coefficient : {n : ℕ} {g : El} → Below C n g → (m : ℕ) → n ≤ m → coefficient C m g ≡ 𝟘
  below-coefficient {n} {g} b m h = go (locate m)
    where
      go : Located m → coefficient C m g ≡ 𝟘
      go (place i j l e) =
          ap (λ a. coefficient C a g) e ∙ coefficient-pole C i j l g ∙ b.vanish i j l (omega arith)
      go (gap d) = coefficient-gap C m d g

  pub coefficient-below : (n : ℕ) (g : El) → ((m : ℕ) → n ≤ m → coefficient C m g ≡ 𝟘) → Below C n g
  coefficient-below n g c =
      record { vanish = λ i j l h. sym (coefficient-pole C i j l g) ∙ c (pole i j) h }

  pub below_zero : (n : ℕ) → Below C n 𝟎
  below_zero n = record { vanish = λ i j l h. at_zero C i j }

  pub below_add : {n : ℕ} {g h : El} → Below C n g → Below C n h → Below C n (g ⊕ h)
  below_add {n} {g} {h} b c =
      record { vanish = λ i j l m. at-add C i j g h ∙ ap₂ ◌+ₖ◌ (b.vanish i j l m) (c.vanish i j l m) ∙ k.add_zero 𝟘 }

  pub below-neg : {n : ℕ} {g : El} → Below C n g → Below C n (⊖ g)
  below-neg {n} {g} b =
      record { vanish = λ i j l m. at-neg C i j g ∙ ap -ₖ◌ (b.vanish i j l m) ∙ L.neg-zero k }

  pub below-constant-mul : (c : Car) {n : ℕ} {g : El} → Below C n g → Below C n (constant C c ⊗ g)
  below-constant-mul c {n} {g} b =
      record { vanish = λ i j l m. at-constant-mul C c i j g ∙ ap (λ u. c ·ₖ u) (b.vanish i j l m) ∙ L.mul-zero k c }

  pub below_more : {m n : ℕ} {g : El} → m ≤ n → Below C m g → Below C n g
  below_more h b = record { vanish = λ i j l u. b.vanish i j l (omega arith) }

  pub below_none : {g : El} → Below C 0 g → g ≡ 𝟎
  below_none b = at_ext C (λ i j l. b.vanish i j l (omega arith) ∙ sym (at_zero C i j))

  pub below_step : {n : ℕ} {g : El} → Below C (suc n) g → coefficient C n g ≡ 𝟘 → Below C n g
  below_step {n} {g} b c = record { vanish = λ i j l h. go i j l h (ℕ_discrete n (pole i j)) }
    where
      go : (i j : ℕ) → j ≤ 2 → n ≤ pole i j → Dec (n ≡ pole i j) → at C i j g ≡ 𝟘
      go i j l h (yes e) = sym (coefficient-pole C i j l g) ∙ ap (λ m. coefficient C m g) (sym e) ∙ c
      go i j l h (no e) = b.vanish i j l (omega arith)

  pub below_gap : {n : ℕ} {g : El} → IsGap n → Below C (suc n) g → Below C n g
  below_gap {n} {g} d b = below_step b (coefficient-gap C n d g)

  pub below-x : {n : ℕ} {g : El} → Below C n g → Below C (3 + n) (x C ⊗ g)
  below-x {n} {g} b = record { vanish = go }
    where
      go : (i j : ℕ) → j ≤ 2 → 3 + n ≤ pole i j → at C i j (x C ⊗ g) ≡ 𝟘
      go zero j l h = at_x-first C j g
      go (suc i) j l h = at_x-next C i j g ∙ b.vanish i j l (omega arith)

  minus-zero : (a b : Car) → a ≡ 𝟘 → b ≡ 𝟘 → a +ₖ -ₖ b ≡ 𝟘
  minus-zero a b e f = cc (e, f, k.add_neg 𝟘)

  pub below-y : {n : ℕ} {g : El} → Below C (suc n) g → Below C (suc (4 + n)) (y C ⊗ g)
  below-y {n} {g} b = record { vanish = go }
    where
      go : (i j : ℕ) → j ≤ 2 → suc (4 + n) ≤ pole i j → at C i j (y C ⊗ g) ≡ 𝟘
      go i zero l h =
          at-y_0 C i g
          ∙ ap -ₖ◌ (weigh_vanish k 0 (C.c0 ∷ C.c1 ∷ C.c3 ∷ C.c6 ∷ C.a0 ∷ []) (λ m. at C m 2 g) i (λ m u. b.vanish m 2 (omega arith) (omega arith)))
          ∙ L.neg-zero k
      go i (suc zero) l h =
          at-y_1 C i g
          ∙ minus-zero _ _ (b.vanish i 0 (omega arith) (omega arith)) (weigh_vanish k 0 (C.c2 ∷ C.c4 ∷ C.c7 ∷ []) (λ m. at C m 2 g) i (λ m u. b.vanish m 2 (omega arith) (omega arith)))
      go i (suc (suc zero)) l h =
          at-y_2 C i g
          ∙ minus-zero _ _ (b.vanish i 1 (omega arith) (omega arith)) (weigh_vanish k 0 (C.c5 ∷ C.c8 ∷ []) (λ m. at C m 2 g) i (λ m u. b.vanish m 2 (omega arith) (omega arith)))
      go i (suc (suc (suc j))) l h = absurd (omega arith)
