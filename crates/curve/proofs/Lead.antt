-- Factors that raise pole numbers by a fixed amount: y by 4, x by 3.
--   twist-one twist_turn       the two values of twist
--   twist-same twist-y-y       it depends on the classes modulo 3; multiplying by y twice
--   Top u a            for g without monomials above the pole number n, u·g has none above a + n, and its coefficient there is twist a n
--                      times that of g at n
--   top_one top-y top-y-y top-x                1, y, y² and x times such an element are such
use mathlib.Core.Path.{◌≡◌, refl, sym, ◌∙◌, ap, ap₂, subst}
use mathlib.Core.List.{[], ◌∷◌}
use mathlib.Core.Logic.{inl, inr}
use Prim.Native.Nat.{ℕ, zero, suc, ◌+◌, ◌%◌, ◌≤◌, ◌<◌}
use native.Mathlib.Omega.{arith}
use native.Mathlib.Nat as N
use lib.Dec.{leb, le→leb, leb→le}
use Rattle.algebra.specs.Ring.{CommRing}
use Rattle.algebra.proofs.Laws as L
use Rattle.ideal.specs.Poles.{IsGap}
use Rattle.curve.specs.Curve.{Curve, Coordinate, x, y, at}
use Rattle.curve.proofs.Back.{back-high, back-vanish, weigh, weigh_vanish}
use Rattle.curve.proofs.Coefficient.{at-y_0, at-y_1, at-y_2}
use Rattle.curve.specs.Pole.{pole}
use Rattle.curve.proofs.Pole.{Located, place, gap, locate}
use Rattle.curve.specs.Sequence.{coefficient, pick, twist}
use Rattle.curve.specs.Monomial.{Below}
use Rattle.curve.proofs.Term.{coefficient-pole, coefficient-gap, coefficient-x-high, pick_true, pick_false}
use Rattle.curve.proofs.Filtration.{below-coefficient, below_more, below_gap, below-x, below-y}

module _ {k : CommRing} (C : Curve k) where
  open k use {Car, zero as 𝟘, one as 𝟙, add as ◌+ₖ◌, mul as ◌·ₖ◌, neg as -ₖ◌}
  open Coordinate C use {Car as El, zero as 𝟎, one as 𝟏, add as ◌⊕◌, mul as ◌⊗◌, neg as ⊖◌}

  infixl 60 ◌⊕◌ ◌+ₖ◌
  infixl 70 ◌⊗◌ ◌·ₖ◌
  infix 80 ⊖◌ -ₖ◌
  pub twist-one : (m n : ℕ) → m % 3 + n % 3 < 3 → twist C m n ≡ 𝟙
  unfolding twist
  twist-one m n h =
      pick_false (leb 3 (m % 3 + n % 3)) (-ₖ C.a0) 𝟙 (λ t. let l : 3 ≤ m % 3 + n % 3 = leb→le 3 (m % 3 + n % 3) t in omega arith)

  pub twist_turn : (m n : ℕ) → 3 ≤ m % 3 + n % 3 → twist C m n ≡ -ₖ C.a0
  unfolding twist
  twist_turn m n h = pick_true (leb 3 (m % 3 + n % 3)) (-ₖ C.a0) 𝟙 (le→leb 3 (m % 3 + n % 3) h)

  pub twist-same : (m m' n n' : ℕ) → m % 3 ≡ m' % 3 → n % 3 ≡ n' % 3 → twist C m n ≡ twist C m' n'
  unfolding twist
  twist-same m m' n n' e f = ap₂ (λ a b. pick (leb 3 (a + b)) (-ₖ C.a0) 𝟙) e f

  -- multiplying by y twice
  pub twist-y-y : (n : ℕ) → twist C 4 (4 + n) ·ₖ twist C 4 n ≡ twist C 8 n
  twist-y-y n = go (n % 3) refl
    where
      go : (r : ℕ) → n % 3 ≡ r → twist C 4 (4 + n) ·ₖ twist C 4 n ≡ twist C 8 n
      go zero e =
          ap₂ ◌·ₖ◌ (twist-one 4 (4 + n) (omega arith)) (twist-one 4 n (omega arith))
          ∙ k.mul_one 𝟙
          ∙ sym (twist-one 8 n (omega arith))
      go (suc zero) e =
          ap₂ ◌·ₖ◌ (twist_turn 4 (4 + n) (omega arith)) (twist-one 4 n (omega arith))
          ∙ k.mul_one _
          ∙ sym (twist_turn 8 n (omega arith))
      go (suc (suc zero)) e =
          ap₂ ◌·ₖ◌ (twist-one 4 (4 + n) (omega arith)) (twist_turn 4 n (omega arith))
          ∙ L.one-mul k _
          ∙ sym (twist_turn 8 n (omega arith))
      go (suc (suc (suc r))) e = absurd (omega arith)

  pub record Top (u : El) (a : ℕ) : Type 0 where
    pub bound : {n : ℕ} {g : El} → Below C (suc n) g → Below C (suc (a + n)) (u ⊗ g)
    pub top : {n : ℕ} {g : El} → Below C (suc n) g → coefficient C (a + n) (u ⊗ g) ≡ twist C a n ·ₖ coefficient C n g

  last_zero : (a b : Car) → b ≡ 𝟘 → a +ₖ -ₖ b ≡ a
  last_zero a b e = cc (e, L.neg-zero k, k.add_zero a)

  only_last : (a b c d e u0 u1 u2 u3 u4 v : Car) → u0 ≡ 𝟘 → u1 ≡ 𝟘 → u2 ≡ 𝟘 → u3 ≡ 𝟘 → u4 ≡ v → a ·ₖ u0 +ₖ (b ·ₖ u1 +ₖ (c ·ₖ u2 +ₖ (d ·ₖ u3 +ₖ (e ·ₖ u4 +ₖ 𝟘)))) ≡ e ·ₖ v
  only_last a b c d e u0 u1 u2 u3 u4 v z0 z1 z2 z3 z4 =
      simp (z0, z1, z2, z3, z4, L.mul-zero, L.zero-add, k.add_zero)

  -- the sum with which y³ comes in, at its top
  weigh_top : (a b c d e : Car) (f : ℕ → Car) (i : ℕ) → ((m : ℕ) → i < m → f m ≡ 𝟘) → weigh k (a ∷ b ∷ c ∷ d ∷ e ∷ []) f (4 + i) ≡ e ·ₖ f i
  weigh_top a b c d e f i h =
      only_last a b c d e _ _ _ _ _ _ (back-vanish k 0 f (4 + i) (λ m u. h m (omega arith))) (back-vanish k 1 f (4 + i) (λ m u. h m (omega arith)))
      (back-vanish k 2 f (4 + i) (λ m u. h m (omega arith))) (back-vanish k 3 f (4 + i) (λ m u. h m (omega arith))) (back-high k 4 f i)

  lead_y : {n : ℕ} {g : El} → Below C (suc n) g → coefficient C (4 + n) (y C ⊗ g) ≡ twist C 4 n ·ₖ coefficient C n g
  lead_y {n} {g} b = go (locate n)
    where
      from : (i j i' j' : ℕ) → j ≤ 2 → j' ≤ 2 → n ≡ pole i j → 4 + n ≡ pole i' j' → at C i' j' (y C ⊗ g) ≡ twist C 4 n ·ₖ at C i j g
          → coefficient C (4 + n) (y C ⊗ g) ≡ twist C 4 n ·ₖ coefficient C n g
      from i j i' j' l l' e e' t =
          ap (λ m. coefficient C m (y C ⊗ g)) e'
          ∙ coefficient-pole C i' j' l' (y C ⊗ g)
          ∙ t
          ∙ ap (λ c. twist C 4 n ·ₖ c) (sym (coefficient-pole C i j l g) ∙ ap (λ m. coefficient C m g) (sym e))

      gaps : (m : ℕ) → n ≡ suc m → IsGap n → coefficient C (4 + n) (y C ⊗ g) ≡ twist C 4 n ·ₖ coefficient C n g
      gaps m e d =
          let b' : Below C (suc m) g = below_more C (omega arith) (below_gap C d b) in
          below-coefficient C (below-y C b') (4 + n) (omega arith)
          ∙ sym (L.mul-zero k (twist C 4 n))
          ∙ ap (λ c. twist C 4 n ·ₖ c) (sym (coefficient-gap C n d g))

      kept : (a : Car) → n % 3 + 1 < 3 → a ≡ twist C 4 n ·ₖ a
      kept a h = sym (ap (λ t. t ·ₖ a) (twist-one 4 n (omega arith)) ∙ L.one-mul k a)

      go : Located n → coefficient C (4 + n) (y C ⊗ g) ≡ twist C 4 n ·ₖ coefficient C n g
      go (place i zero l e) =
          from i 0 i 1 l (omega arith) e (omega arith)
          (at-y_1 C i g
          ∙ last_zero _ _ (weigh_vanish k 0 (C.c2 ∷ C.c4 ∷ C.c7 ∷ []) (λ m. at C m 2 g) i (λ m u. b.vanish m 2 (omega arith) (omega arith)))
          ∙ kept (at C i 0 g) (omega arith))
      go (place i (suc zero) l e) =
          from i 1 i 2 l (omega arith) e (omega arith)
          (at-y_2 C i g
          ∙ last_zero _ _ (weigh_vanish k 0 (C.c5 ∷ C.c8 ∷ []) (λ m. at C m 2 g) i (λ m u. b.vanish m 2 (omega arith) (omega arith)))
          ∙ kept (at C i 1 g) (omega arith))
      go (place i (suc (suc zero)) l e) =
          from i 2 (4 + i) 0 l (omega arith) e (omega arith)
          (at-y_0 C (4 + i) g
          ∙ ap -ₖ◌ (weigh_top C.c0 C.c1 C.c3 C.c6 C.a0 (λ m. at C m 2 g) i (λ m u. b.vanish m 2 (omega arith) (omega arith)))
          ∙ sym (L.neg-mul k C.a0 (at C i 2 g))
          ∙ ap (λ t. t ·ₖ at C i 2 g) (sym (twist_turn 4 n (omega arith))))
      go (place i (suc (suc (suc j))) l e) = absurd (omega arith)
      go (gap (inl d)) = gaps 0 d (inl d)
      go (gap (inr (inl d))) = gaps 1 d (inr (inl d))
      go (gap (inr (inr d))) = gaps 4 d (inr (inr d))

  pub top-y : Top (y C) 4
  top-y = record { bound = λ b. below-y C b; top = λ b. lead_y b }

  pub top_one : Top 𝟏 0
  top_one = record { bound = λ {n} {g} b. subst (λ (u : El). Below C (suc (0 + n)) u) (sym (L.one-mul (Coordinate C) g)) (below_more C (omega arith) b); top = λ {n} {g} b. top n g }
    where
      top : (n : ℕ) (g : El) → coefficient C (0 + n) (𝟏 ⊗ g) ≡ twist C 0 n ·ₖ coefficient C n g
      top n g =
          ap₂ (coefficient C) (N.zero-add n) (L.one-mul (Coordinate C) g)
          ∙ sym (L.one-mul k _)
          ∙ ap (λ t. t ·ₖ coefficient C n g) (sym (twist-one 0 n (omega arith)))

  -- x times an element: the pole number rises by 3, and the factor stays
  pub top-x : (u : El) (a : ℕ) → Top u a → Top (x C ⊗ u) (3 + a)
  top-x u a t = record { bound = λ {n} {g} b. bd n g b; top = λ {n} {g} b. tp n g b }
    where
      bd : (n : ℕ) (g : El) → Below C (suc n) g → Below C (suc (3 + a + n)) (x C ⊗ u ⊗ g)
      bd n g b =
          subst (λ (v : El). Below C (suc (3 + a + n)) v) (sym ((Coordinate C).mul_assoc (x C) u g)) (below_more C (omega arith) (below-x C (t.bound b)))

      tp : (n : ℕ) (g : El) → Below C (suc n) g → coefficient C (3 + a + n) (x C ⊗ u ⊗ g) ≡ twist C (3 + a) n ·ₖ coefficient C n g
      tp n g b =
          ap₂ (coefficient C) (omega arith) ((Coordinate C).mul_assoc (x C) u g)
          ∙ coefficient-x-high C (a + n) (u ⊗ g)
          ∙ t.top b
          ∙ ap (λ s. s ·ₖ coefficient C n g) (twist-same a (3 + a) n n (omega arith) refl)

  pub top-y-y : Top (y C ⊗ y C) 8
  top-y-y = record { bound = λ {n} {g} b. bd n g b; top = λ {n} {g} b. tp n g b }
    where
      bd : (n : ℕ) (g : El) → Below C (suc n) g → Below C (suc (8 + n)) (y C ⊗ y C ⊗ g)
      bd n g b =
          subst (λ (v : El). Below C (suc (8 + n)) v) (sym ((Coordinate C).mul_assoc (y C) (y C) g)) (below_more C (omega arith) (below-y C (below-y C b)))

      tp : (n : ℕ) (g : El) → Below C (suc n) g → coefficient C (8 + n) (y C ⊗ y C ⊗ g) ≡ twist C 8 n ·ₖ coefficient C n g
      tp n g b =
          ap₂ (coefficient C) (omega arith) ((Coordinate C).mul_assoc (y C) (y C) g)
          ∙ lead_y (below-y C b)
          ∙ ap (λ c. twist C 4 (4 + n) ·ₖ c) (lead_y b)
          ∙ sym (k.mul_assoc _ _ _)
          ∙ ap (λ t. t ·ₖ coefficient C n g) (twist-y-y n)
