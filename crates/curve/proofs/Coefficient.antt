-- The coefficients of sums and products in the coordinate ring.
--   at_zero at-add at-neg                of the ring's operations
--   at-constant-x at-constant-y at-one_0 at-one-x at-one-y      of constants and of 1
--   at_ext             elements with the same coefficients are equal
--   at-constant-mul    of a constant times g
--   at_x-first at_x-next                 of x·g
--   at-y_0 at-y_1 at-y_2                 of y·g, with −(t2·y² + t1·y + t0) for y³
--   in_x-zero in_x-one in_x-add in_x-mul     polynomials in x are a subring
--   constant-zero constant-one constant-add constant-neg constant-mul      and so are constants
use mathlib.Core.Path.{◌≡◌, sym, ◌∙◌, ap}
use mathlib.Core.List.{[], ◌∷◌}
use Prim.Native.Nat.{ℕ, suc, ◌≤◌}
use lib.Dec.{lit≤}
use Rattle.algebra.specs.Ring.{CommRing}
use Rattle.polynomial.specs.Poly.{Poly, coef, poly_path, const, X}
use Rattle.polynomial.proofs.Coef as P
use Rattle.curve.proofs.Component as M
use Rattle.curve.specs.Curve.{Curve, t0, t1, t2, Coordinate, y, in_x, x, constant, part, at}
use Rattle.curve.proofs.Back.{weigh, coef-ascending}

module _ {k : CommRing} (C : Curve k) where
  open k use {Car, zero as 𝟘, one as 𝟙, add as ◌+ₖ◌, mul as ◌·ₖ◌, neg as -ₖ◌}
  open Coordinate C use {Car as El, zero as 𝟎, one as 𝟏, add as ◌⊕◌, mul as ◌⊗◌, neg as ⊖◌}

  infixl 60 ◌⊕◌ ◌+ₖ◌
  infixl 70 ◌⊗◌ ◌·ₖ◌
  infix 80 ⊖◌ -ₖ◌
  abbrev k[x] : CommRing
  k[x] = Poly k

  pub at_zero : (i j : ℕ) → at C i j 𝟎 ≡ 𝟘
  unfolding Coordinate part at
  at_zero i j = ap (λ f. coef k f i) (M.component-zero k[x] (t0 C) (t1 C) (t2 C) j) ∙ P.coef-zero k i

  pub at-add : (i j : ℕ) (g h : El) → at C i j (g ⊕ h) ≡ at C i j g +ₖ at C i j h
  unfolding Coordinate part at
  at-add i j g h =
      ap (λ f. coef k f i) (M.component-add k[x] (t0 C) (t1 C) (t2 C) j g h) ∙ P.coef-add k _ _ i

  pub at-neg : (i j : ℕ) (g : El) → at C i j (⊖ g) ≡ -ₖ at C i j g
  unfolding Coordinate part at
  at-neg i j g =
      ap (λ f. coef k f i) (M.component-neg k[x] (t0 C) (t1 C) (t2 C) j g) ∙ P.coef-neg k _ i

  at-in_x-mul : (f : k[x].Car) (i j : ℕ) (g : El) → at C i j (in_x C f ⊗ g) ≡ coef k (k[x].mul f (part C j g)) i
  unfolding Coordinate part at in_x
  at-in_x-mul f i j g = ap (λ h. coef k h i) (M.component-scale k[x] (t0 C) (t1 C) (t2 C) j f g)

  pub at-constant-mul : (c : Car) (i j : ℕ) (g : El) → at C i j (constant C c ⊗ g) ≡ c ·ₖ at C i j g
  unfolding at constant
  at-constant-mul c i j g = at-in_x-mul (const k c) i j g ∙ P.coef-const-mul k c (part C j g) i

  pub at_x-first : (j : ℕ) (g : El) → at C 0 j (x C ⊗ g) ≡ 𝟘
  unfolding x
  at_x-first j g = at-in_x-mul (X k) 0 j g ∙ P.coef-X-head k (part C j g)

  pub at_x-next : (i j : ℕ) (g : El) → at C (suc i) j (x C ⊗ g) ≡ at C i j g
  unfolding at x
  at_x-next i j g = at-in_x-mul (X k) (suc i) j g ∙ P.coef-X-next k (part C j g) i

  pub at_ext : {g h : El} → ((i j : ℕ) → j ≤ 2 → at C i j g ≡ at C i j h) → g ≡ h
  unfolding Coordinate part at
  at_ext e =
      M.normal_path k[x] (t0 C) (t1 C) (t2 C) (poly_path k (λ i. e i 0 (lit≤ tt))) (poly_path k (λ i. e i 1 (lit≤ tt))) (poly_path k (λ i. e i 2 (lit≤ tt)))

  coef-t0 : (f : k[x].Car) (i : ℕ) → coef k (k[x].mul (t0 C) f) i ≡ weigh k (C.c0 ∷ C.c1 ∷ C.c3 ∷ C.c6 ∷ C.a0 ∷ []) (coef k f) i
  unfolding t0
  coef-t0 f i = coef-ascending k (C.c0 ∷ C.c1 ∷ C.c3 ∷ C.c6 ∷ C.a0 ∷ []) f i

  coef-t1 : (f : k[x].Car) (i : ℕ) → coef k (k[x].mul (t1 C) f) i ≡ weigh k (C.c2 ∷ C.c4 ∷ C.c7 ∷ []) (coef k f) i
  unfolding t1
  coef-t1 f i = coef-ascending k (C.c2 ∷ C.c4 ∷ C.c7 ∷ []) f i

  coef-t2 : (f : k[x].Car) (i : ℕ) → coef k (k[x].mul (t2 C) f) i ≡ weigh k (C.c5 ∷ C.c8 ∷ []) (coef k f) i
  unfolding t2
  coef-t2 f i = coef-ascending k (C.c5 ∷ C.c8 ∷ []) f i

  pub at-y_0 : (i : ℕ) (g : El) → at C i 0 (y C ⊗ g) ≡ -ₖ weigh k (C.c0 ∷ C.c1 ∷ C.c3 ∷ C.c6 ∷ C.a0 ∷ []) (λ n. at C n 2 g) i
  unfolding Coordinate part at y
  at-y_0 i g =
      ap (λ f. coef k f i) (M.component-y_0 k[x] (t0 C) (t1 C) (t2 C) g)
      ∙ P.coef-neg k _ i
      ∙ ap -ₖ◌ (coef-t0 (part C 2 g) i)

  pub at-y_1 : (i : ℕ) (g : El) → at C i 1 (y C ⊗ g) ≡ at C i 0 g +ₖ -ₖ weigh k (C.c2 ∷ C.c4 ∷ C.c7 ∷ []) (λ n. at C n 2 g) i
  unfolding Coordinate part at y
  at-y_1 i g =
      ap (λ f. coef k f i) (M.component-y_1 k[x] (t0 C) (t1 C) (t2 C) g)
      ∙ P.coef-add k _ _ i
      ∙ ap (λ u. at C i 0 g +ₖ u) (P.coef-neg k _ i ∙ ap -ₖ◌ (coef-t1 (part C 2 g) i))

  pub at-y_2 : (i : ℕ) (g : El) → at C i 2 (y C ⊗ g) ≡ at C i 1 g +ₖ -ₖ weigh k (C.c5 ∷ C.c8 ∷ []) (λ n. at C n 2 g) i
  unfolding Coordinate part at y
  at-y_2 i g =
      ap (λ f. coef k f i) (M.component-y_2 k[x] (t0 C) (t1 C) (t2 C) g)
      ∙ P.coef-add k _ _ i
      ∙ ap (λ u. at C i 1 g +ₖ u) (P.coef-neg k _ i ∙ ap -ₖ◌ (coef-t2 (part C 2 g) i))

  pub in_x-zero : in_x C k[x].zero ≡ 𝟎
  unfolding Coordinate in_x
  in_x-zero = M.embed-zero k[x] (t0 C) (t1 C) (t2 C)

  pub in_x-one : in_x C k[x].one ≡ 𝟏
  unfolding Coordinate in_x
  in_x-one = M.embed-one k[x] (t0 C) (t1 C) (t2 C)

  pub in_x-add : (f g : k[x].Car) → in_x C (k[x].add f g) ≡ in_x C f ⊕ in_x C g
  unfolding Coordinate in_x
  in_x-add f g = M.embed-add k[x] (t0 C) (t1 C) (t2 C) f g

  pub in_x-mul : (f g : k[x].Car) → in_x C (k[x].mul f g) ≡ in_x C f ⊗ in_x C g
  unfolding Coordinate in_x
  in_x-mul f g = M.embed-mul k[x] (t0 C) (t1 C) (t2 C) f g

  pub constant-zero : constant C 𝟘 ≡ 𝟎
  unfolding Coordinate in_x constant
  constant-zero = ap (in_x C) (P.const-zero k) ∙ M.embed-zero k[x] (t0 C) (t1 C) (t2 C)

  pub constant-one : constant C 𝟙 ≡ 𝟏
  unfolding Coordinate in_x constant
  constant-one = ap (in_x C) (P.const-one k) ∙ M.embed-one k[x] (t0 C) (t1 C) (t2 C)

  pub constant-add : (a b : Car) → constant C (a +ₖ b) ≡ constant C a ⊕ constant C b
  unfolding Coordinate in_x constant
  constant-add a b = ap (in_x C) (P.const-add k a b) ∙ M.embed-add k[x] (t0 C) (t1 C) (t2 C) _ _

  pub constant-neg : (a : Car) → constant C (-ₖ a) ≡ ⊖ constant C a
  unfolding Coordinate in_x constant
  constant-neg a = ap (in_x C) (P.const-neg k a) ∙ M.embed-neg k[x] (t0 C) (t1 C) (t2 C) _

  pub constant-mul : (a b : Car) → constant C (a ·ₖ b) ≡ constant C a ⊗ constant C b
  unfolding Coordinate in_x constant
  constant-mul a b = ap (in_x C) (P.const-mul k a b) ∙ M.embed-mul k[x] (t0 C) (t1 C) (t2 C) _ _

  -- the coefficients of a constant
  at-constant_0 : (c : Car) → at C 0 0 (constant C c) ≡ c
  unfolding Coordinate part at in_x constant
  at-constant_0 c =
      ap (λ f. coef k f 0) (M.component-embed_0 k[x] (t0 C) (t1 C) (t2 C) (const k c)) ∙ P.coef-const-head k c

  pub at-constant-x : (c : Car) (i : ℕ) → at C (suc i) 0 (constant C c) ≡ 𝟘
  unfolding Coordinate part at in_x constant
  at-constant-x c i =
      ap (λ f. coef k f (suc i)) (M.component-embed_0 k[x] (t0 C) (t1 C) (t2 C) (const k c)) ∙ P.coef-const-next k c i

  pub at-constant-y : (c : Car) (i j : ℕ) → at C i (suc j) (constant C c) ≡ 𝟘
  unfolding Coordinate part at in_x constant
  at-constant-y c i j =
      ap (λ f. coef k f i) (M.component-embed-next k[x] (t0 C) (t1 C) (t2 C) j (const k c)) ∙ P.coef-zero k i

  pub at-one_0 : at C 0 0 𝟏 ≡ 𝟙
  at-one_0 = ap (at C 0 0) (sym constant-one) ∙ at-constant_0 𝟙

  pub at-one-x : (i : ℕ) → at C (suc i) 0 𝟏 ≡ 𝟘
  at-one-x i = ap (at C (suc i) 0) (sym constant-one) ∙ at-constant-x 𝟙 i

  pub at-one-y : (i j : ℕ) → at C i (suc j) 𝟏 ≡ 𝟘
  at-one-y i j = ap (at C i (suc j)) (sym constant-one) ∙ at-constant-y 𝟙 i j
