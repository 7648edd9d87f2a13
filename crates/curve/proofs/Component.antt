-- The components of sums and products in A[y] modulo a monic cubic y³ + t2·y² + t1·y + t0.
--   normal_path           elements with the same three components are equal
--   component-zero component-add component-neg                   of the ring's operations
--   component-triple-j component-embed-j                         of elements given by components
--   component-scale       of an element of A times g: component j (a·g) = a·(component j g)
--   component-y-j         of y·g: −t0·g2, g0 − t1·g2, g1 − t2·g2
--   embed-zero embed-one embed-add embed-neg embed-mul                 A is a subring
--   y-cubed               y³ = −(t2·y² + t1·y + t0)
--   spread                g = g0 + g1·y + g2·y²
use mathlib.Core.Path.{◌≡◌, refl, sym, ◌∙◌, ap}
use Prim.Native.Nat.{ℕ, zero, suc}
use Rattle.algebra.specs.Ring.{CommRing}
use Rattle.algebra.proofs.Laws as L
use Rattle.algebra.proofs.Cubic.{normal_eq, scale_0, scale_1, scale_2, by_y_0, by_y_1, by_y_2}
use Rattle.curve.specs.Cubic.{Cubic, triple, component, embed, y}

module _ (A : CommRing) (t0 t1 t2 : A.Car) where
  open A use {Car, zero as 𝟘, one as 𝟙, add as ◌+ₐ◌, mul as ◌·ₐ◌, neg as -ₐ◌}
  open Cubic A t0 t1 t2 use {Car as El, zero as 𝟎, one as 𝟏, add as ◌⊕◌, mul as ◌⊗◌, neg as ⊖◌}

  infixl 60 ◌⊕◌ ◌+ₐ◌
  infixl 70 ◌⊗◌ ◌·ₐ◌
  infix 80 ⊖◌ -ₐ◌
  abbrev part : ℕ → El → Car
  part = component A t0 t1 t2

  abbrev emb : Car → El
  emb = embed A t0 t1 t2

  abbrev 𝕪 : El
  𝕪 = y A t0 t1 t2

  pub normal_path : {g h : El} → part 0 g ≡ part 0 h → part 1 g ≡ part 1 h → part 2 g ≡ part 2 h → g ≡ h
  unfolding Cubic component
  normal_path e0 e1 e2 = normal_eq e0 e1 e2

  pub component-zero : (j : ℕ) → part j 𝟎 ≡ 𝟘
  unfolding Cubic component
  component-zero zero = refl
  component-zero (suc zero) = refl
  component-zero (suc (suc zero)) = refl
  component-zero (suc (suc (suc j))) = refl

  pub component-add : (j : ℕ) (g h : El) → part j (g ⊕ h) ≡ part j g +ₐ part j h
  unfolding Cubic component
  component-add zero g h = refl
  component-add (suc zero) g h = refl
  component-add (suc (suc zero)) g h = refl
  component-add (suc (suc (suc j))) g h = sym (A.add_zero 𝟘)

  pub component-neg : (j : ℕ) (g : El) → part j (⊖ g) ≡ -ₐ part j g
  unfolding Cubic component
  component-neg zero g = refl
  component-neg (suc zero) g = refl
  component-neg (suc (suc zero)) g = refl
  component-neg (suc (suc (suc j))) g = sym (L.neg-zero A)

  pub component-triple_0 : (a b c : Car) → part 0 (triple A t0 t1 t2 a b c) ≡ a
  unfolding Cubic component triple
  component-triple_0 a b c = refl

  pub component-triple_1 : (a b c : Car) → part 1 (triple A t0 t1 t2 a b c) ≡ b
  unfolding Cubic component triple
  component-triple_1 a b c = refl

  pub component-triple_2 : (a b c : Car) → part 2 (triple A t0 t1 t2 a b c) ≡ c
  unfolding Cubic component triple
  component-triple_2 a b c = refl

  pub embed-one : emb 𝟙 ≡ 𝟏
  unfolding Cubic component triple embed
  embed-one = refl

  pub component-embed_0 : (a : Car) → part 0 (emb a) ≡ a
  unfolding Cubic component triple embed
  component-embed_0 a = refl

  pub component-embed-next : (j : ℕ) (a : Car) → part (suc j) (emb a) ≡ 𝟘
  unfolding Cubic component triple embed
  component-embed-next zero a = refl
  component-embed-next (suc zero) a = refl
  component-embed-next (suc (suc j)) a = refl

  component-embed_1 : (a : Car) → part 1 (emb a) ≡ 𝟘
  component-embed_1 a = component-embed-next 0 a

  component-embed_2 : (a : Car) → part 2 (emb a) ≡ 𝟘
  component-embed_2 a = component-embed-next 1 a

  pub component-scale : (j : ℕ) (a : Car) (g : El) → part j (emb a ⊗ g) ≡ a ·ₐ part j g
  unfolding Cubic component triple embed
  component-scale zero a g = scale_0 A t0 t1 t2 a g.r0 g.r1 g.r2
  component-scale (suc zero) a g = scale_1 A t0 t1 t2 a g.r0 g.r1 g.r2
  component-scale (suc (suc zero)) a g = scale_2 A t0 t1 t2 a g.r0 g.r1 g.r2
  component-scale (suc (suc (suc j))) a g = sym (L.mul-zero A a)

  pub component-y_0 : (g : El) → part 0 (𝕪 ⊗ g) ≡ -ₐ (t0 ·ₐ part 2 g)
  unfolding Cubic component triple y
  component-y_0 g = by_y_0 A t0 t1 t2 g.r0 g.r1 g.r2

  pub component-y_1 : (g : El) → part 1 (𝕪 ⊗ g) ≡ part 0 g +ₐ -ₐ (t1 ·ₐ part 2 g)
  unfolding Cubic component triple y
  component-y_1 g = by_y_1 A t0 t1 t2 g.r0 g.r1 g.r2

  pub component-y_2 : (g : El) → part 2 (𝕪 ⊗ g) ≡ part 1 g +ₐ -ₐ (t2 ·ₐ part 2 g)
  unfolding Cubic component triple y
  component-y_2 g = by_y_2 A t0 t1 t2 g.r0 g.r1 g.r2

  pub embed-zero : emb 𝟘 ≡ 𝟎
  unfolding Cubic triple embed
  embed-zero = refl

  pub embed-add : (a b : Car) → emb (a +ₐ b) ≡ emb a ⊕ emb b
  embed-add a b =
      normal_path (simp (component-add, component-embed_0)) (simp (component-add, component-embed_1, A.add_zero)) (simp (component-add, component-embed_2, A.add_zero))

  pub embed-neg : (a : Car) → emb (-ₐ a) ≡ ⊖ emb a
  embed-neg a =
      normal_path (simp (component-neg, component-embed_0)) (simp (component-neg, component-embed_1, L.neg-zero)) (simp (component-neg, component-embed_2, L.neg-zero))

  pub embed-mul : (a b : Car) → emb (a ·ₐ b) ≡ emb a ⊗ emb b
  embed-mul a b =
      normal_path (simp (component-scale, component-embed_0)) (simp (component-scale, component-embed_1, L.mul-zero)) (simp (component-scale, component-embed_2, L.mul-zero))

  triple-y : 𝕪 ≡ triple A t0 t1 t2 𝟘 𝟙 𝟘
  unfolding y
  triple-y = refl

  y_0 : part 0 𝕪 ≡ 𝟘
  y_0 = ap (part 0) triple-y ∙ component-triple_0 𝟘 𝟙 𝟘

  y_1 : part 1 𝕪 ≡ 𝟙
  y_1 = ap (part 1) triple-y ∙ component-triple_1 𝟘 𝟙 𝟘

  y_2 : part 2 𝕪 ≡ 𝟘
  y_2 = ap (part 2) triple-y ∙ component-triple_2 𝟘 𝟙 𝟘

  y-squared : 𝕪 ⊗ 𝕪 ≡ triple A t0 t1 t2 𝟘 𝟘 𝟙
  y-squared =
      normal_path (simp (component-y_0, component-triple_0, y_2, L.mul-zero, L.neg-zero)) (simp (component-y_1, component-triple_1, y_0, y_2, L.mul-zero, L.neg-zero, A.add_zero))
      (simp (component-y_2, component-triple_2, y_1, y_2, L.mul-zero, L.neg-zero, A.add_zero))

  pub y-cubed : 𝕪 ⊗ (𝕪 ⊗ 𝕪) ≡ ⊖ (emb t2 ⊗ (𝕪 ⊗ 𝕪) ⊕ emb t1 ⊗ 𝕪 ⊕ emb t0)
  y-cubed =
      rw y-squared
      (normal_path
      (simp (component-y_0, component-triple_0, component-triple_2, component-neg, component-add, component-scale, component-embed_0, y_0, L.mul-zero, L.zero-add, A.mul_one))
      (simp (
        component-y_1,
        component-triple_0,
        component-triple_1,
        component-triple_2,
        component-neg,
        component-add,
        component-scale,
        component-embed_1,
        y_1,
        L.mul-zero,
        L.zero-add,
        A.add_zero,
        A.mul_one,
      ))
      (simp (component-y_2, component-triple_1, component-triple_2, component-neg, component-add, component-scale, component-embed_2, y_2, L.mul-zero, L.zero-add, A.add_zero, A.mul_one)))

  pub spread : (g : El) → g ≡ emb (part 0 g) ⊕ emb (part 1 g) ⊗ 𝕪 ⊕ emb (part 2 g) ⊗ (𝕪 ⊗ 𝕪)
  spread g =
      rw y-squared
      (normal_path
      (simp (component-triple_0, component-add, component-scale, component-embed_0, y_0, L.mul-zero, A.add_zero))
      (simp (component-triple_1, component-add, component-scale, component-embed_1, y_1, L.mul-zero, L.zero-add, A.add_zero, A.mul_one))
      (simp (component-triple_2, component-add, component-scale, component-embed_2, y_2, L.mul-zero, L.zero-add, A.mul_one)))
