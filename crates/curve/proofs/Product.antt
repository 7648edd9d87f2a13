-- The coefficient at the top of a product. For g and h without monomials above the pole numbers m and n, g·h has none above m + n,
-- and its coefficient at m + n is twist m n times those of g at m and of h at n.
--   top-monomial top-mono      x^i·y^j and the normal monomial of pole number m raise pole numbers by theirs
--   mono-monomial      the normal monomial of the pole number of x^i·y^j is x^i·y^j
--   below_mono, coefficient-mono       mono n has no monomial above n, and the coefficient 1 there
--   split              g less its term at the top
--   product-below, product-top         the product, as above
use mathlib.Core.Path.{◌≡◌, refl, sym, ◌∙◌, ap, ap₂, subst, subst₂}
use Prim.Native.Nat.{ℕ, zero, suc, ◌+◌, ◌*◌, ◌≤◌}
use native.Mathlib.Omega.{arith}
use native.Mathlib.Nat as N
use Rattle.algebra.specs.Ring.{CommRing}
use Rattle.algebra.proofs.Laws as L
use Rattle.algebra.proofs.Solve.{solve, ◌⊞◌, ◌⊠◌, ⊟◌}
use Rattle.ideal.specs.Poles.{IsGap, IsPole}
use Rattle.curve.specs.Curve.{Curve, Coordinate, x, y, constant, at}
use Rattle.curve.proofs.Coefficient.{at-one_0, at-one-x, at-one-y, constant-zero}
use Rattle.curve.specs.Pole.{pole}
use Rattle.curve.proofs.Pole.{pole-x, pole-y, Located, place, gap, locate, gap_dec}
use Rattle.curve.specs.Sequence.{coefficient, twist}
use Rattle.curve.specs.Monomial.{power, monomial, mono, Below}
use Rattle.curve.proofs.Term.{coefficient-pole, coefficient-gap, coefficient-zero, coefficient-add, coefficient-neg, coefficient-constant-mul}
use Rattle.curve.proofs.Filtration.{below-coefficient, below_zero, below_add, below-neg, below-constant-mul, below_more, below_none, below_step, below_gap}
use Rattle.curve.proofs.Lead.{Top, top_one, top-y, top-y-y, top-x, twist-one}

module _ {k : CommRing} (C : Curve k) where
  open k use {Car, zero as 𝟘, one as 𝟙, add as ◌+ₖ◌, mul as ◌·ₖ◌, neg as -ₖ◌}
  open Coordinate C use {Car as El, zero as 𝟎, one as 𝟏, add as ◌⊕◌, mul as ◌⊗◌, neg as ⊖◌}

  infixl 60 ◌⊕◌ ◌+ₖ◌
  infixl 70 ◌⊗◌ ◌·ₖ◌
  infix 80 ⊖◌ -ₖ◌
  top_cast : {u v : El} {a b : ℕ} → u ≡ v → a ≡ b → Top C u a → Top C v b
  top_cast e f t = subst₂ (λ (w : El) (c : ℕ). Top C w c) e f t

  top-y_power : (j : ℕ) → j ≤ 2 → Top C (power (Coordinate C) (y C) j) (4 * j)
  unfolding power
  top-y_power zero h = top_one C
  top-y_power (suc zero) h = top_cast (sym ((Coordinate C).mul_one (y C))) refl (top-y C)
  top-y_power (suc (suc zero)) h = top_cast (ap (λ u. y C ⊗ u) (sym ((Coordinate C).mul_one (y C)))) refl (top-y-y C)
  top-y_power (suc (suc (suc j))) h = absurd (omega arith)

  top-x_power : (i : ℕ) (v : El) (a : ℕ) → Top C v a → Top C (power (Coordinate C) (x C) i ⊗ v) (3 * i + a)
  unfolding power
  top-x_power zero v a t = top_cast (sym (L.one-mul (Coordinate C) v)) (omega arith) t
  top-x_power (suc i) v a t =
      top_cast (sym ((Coordinate C).mul_assoc (x C) (power (Coordinate C) (x C) i) v)) (omega arith) (top-x C _ _ (top-x_power i v a t))

  pub top-monomial : (i j : ℕ) → j ≤ 2 → Top C (monomial C i j) (pole i j)
  unfolding monomial
  top-monomial i j h = top-x_power i (power (Coordinate C) (y C) j) (4 * j) (top-y_power j h)

  pub mono-monomial : (i j : ℕ) → j ≤ 2 → mono C (pole i j) ≡ monomial C i j
  unfolding mono
  mono-monomial i j h = ap₂ (monomial C) (pole-x i j h) (pole-y i j h)

  pub top-mono : (n : ℕ) → IsPole n → Top C (mono C n) n
  top-mono n p = go (locate n)
    where
      go : Located n → Top C (mono C n) n
      go (place i j l e) = top_cast (sym (mono-monomial i j l) ∙ ap (mono C) (sym e)) (sym e) (top-monomial i j l)
      go (gap d) = absurd (p d)

  below_one : Below C 1 𝟏
  below_one = record { vanish = go }
    where
      go : (i j : ℕ) → j ≤ 2 → 1 ≤ pole i j → at C i j 𝟏 ≡ 𝟘
      go zero zero l h = absurd (omega arith)
      go (suc i) zero l h = at-one-x C i
      go zero (suc j) l h = at-one-y C 0 j
      go (suc i) (suc j) l h = at-one-y C (suc i) j

  coefficient-one : coefficient C 0 𝟏 ≡ 𝟙
  coefficient-one = coefficient-pole C 0 0 (omega arith) 𝟏 ∙ at-one_0 C

  pub below_mono : (n : ℕ) → IsPole n → Below C (suc n) (mono C n)
  below_mono n p =
      subst₂ (λ (m : ℕ) (u : El). Below C (suc m) u) (N.add-zero n) ((Coordinate C).mul_one (mono C n)) ((top-mono n p).bound below_one)

  pub coefficient-mono : (n : ℕ) → IsPole n → coefficient C n (mono C n) ≡ 𝟙
  coefficient-mono n p =
      sym (ap₂ (coefficient C) (N.add-zero n) ((Coordinate C).mul_one (mono C n)))
      ∙ (top-mono n p).top below_one
      ∙ ap₂ ◌·ₖ◌ (twist-one C n 0 (omega arith)) coefficient-one
      ∙ k.mul_one 𝟙

  constant-gap : (n : ℕ) → IsGap n → (g h : El) → constant C (coefficient C n g) ⊗ h ≡ 𝟎
  constant-gap n d g h =
      ap (λ c. constant C c ⊗ h) (coefficient-gap C n d g)
      ∙ ap (λ u. u ⊗ h) (constant-zero C)
      ∙ L.zero-mul (Coordinate C) h

  -- what is left of g without its term at the top
  pub split : {n : ℕ} {g : El} → Below C (suc n) g → Below C n (g ⊕ ⊖ (constant C (coefficient C n g) ⊗ mono C n))
  split {n} {g} b = go (gap_dec n)
    where
      go : Dec (IsGap n) → Below C n (g ⊕ ⊖ (constant C (coefficient C n g) ⊗ mono C n))
      go (no p) =
          below_step C (below_add C b (below-neg C (below-constant-mul C _ (below_mono n p))))
          (coefficient-add C n _ _
          ∙ ap (λ u. coefficient C n g +ₖ u) (coefficient-neg C n _ ∙ ap -ₖ◌ (coefficient-constant-mul C n _ _ ∙ ap (λ u. coefficient C n g ·ₖ u) (coefficient-mono n p) ∙ k.mul_one _))
          ∙ k.add_neg _)
      go (yes d) =
          below_add C (below_gap C d b) (below-neg C (subst (λ (u : El). Below C n u) (sym (constant-gap n d g (mono C n))) (below_zero C n)))

  -- the term of g at the top, times h
  term-lead : (m : ℕ) (g : El) {n : ℕ} {h : El} → Below C (suc n) h
      → Below C (suc (m + n)) (constant C (coefficient C m g) ⊗ (mono C m ⊗ h))
      × (coefficient C (m + n) (constant C (coefficient C m g) ⊗ (mono C m ⊗ h)) ≡ twist C m n ·ₖ (coefficient C m g ·ₖ coefficient C n h))
  term-lead m g {n} {h} b = go (gap_dec m)
    where
      go : Dec (IsGap m) → Below C (suc (m + n)) (constant C (coefficient C m g) ⊗ (mono C m ⊗ h))
          × (coefficient C (m + n) (constant C (coefficient C m g) ⊗ (mono C m ⊗ h)) ≡ twist C m n ·ₖ (coefficient C m g ·ₖ coefficient C n h))
      go (no p) = (
        below-constant-mul C _ ((top-mono m p).bound b),
        coefficient-constant-mul C (m + n) _ _
            ∙ ap (λ u. coefficient C m g ·ₖ u) ((top-mono m p).top b)
            ∙ L.mul_left_comm k _ _ _,
      )
      go (yes d) = (
        subst (λ (u : El). Below C (suc (m + n)) u) (sym (constant-gap m d g (mono C m ⊗ h))) (below_zero C (suc (m + n))),
        ap (coefficient C (m + n)) (constant-gap m d g (mono C m ⊗ h))
            ∙ coefficient-zero C (m + n)
            ∙ sym (L.mul-zero k (twist C m n))
            ∙ ap (λ u. twist C m n ·ₖ u) (sym (ap (λ u. u ·ₖ coefficient C n h) (coefficient-gap C m d g) ∙ L.zero-mul k _)),
      )

  apart : (g c w h : El) → g ⊗ h ≡ c ⊗ (w ⊗ h) ⊕ (g ⊕ ⊖ (c ⊗ w)) ⊗ h
  apart = solve (Coordinate C) 4 (λ g c w h. g ⊠ h) (λ g c w h. c ⊠ (w ⊠ h) ⊞ (g ⊞ ⊟ (c ⊠ w)) ⊠ h) tt

  -- from what is left of g to g
  product_step : (m : ℕ) (g : El) {n : ℕ} {h : El} → Below C (suc n) h → Below C (m + n) ((g ⊕ ⊖ (constant C (coefficient C m g) ⊗ mono C m)) ⊗ h)
      → Below C (suc (m + n)) (g ⊗ h) × (coefficient C (m + n) (g ⊗ h) ≡ twist C m n ·ₖ (coefficient C m g ·ₖ coefficient C n h))
  product_step m g {n} {h} b r =
      let e : g ⊗ h ≡ constant C (coefficient C m g) ⊗ (mono C m ⊗ h) ⊕ (g ⊕ ⊖ (constant C (coefficient C m g) ⊗ mono C m)) ⊗ h = apart g (constant C (coefficient C m g)) (mono C m) h in (
        subst (λ (u : El). Below C (suc (m + n)) u) (sym e) (below_add C (term-lead m g b).0 (below_more C (omega arith) r)),
        ap (coefficient C (m + n)) e
            ∙ coefficient-add C (m + n) _ _
            ∙ ap₂ ◌+ₖ◌ (term-lead m g b).1 (below-coefficient C r (m + n) (omega arith))
            ∙ k.add_zero _,
      )

  product-lead : (m : ℕ) (g : El) → Below C (suc m) g → (n : ℕ) (h : El) → Below C (suc n) h
      → Below C (suc (m + n)) (g ⊗ h) × (coefficient C (m + n) (g ⊗ h) ≡ twist C m n ·ₖ (coefficient C m g ·ₖ coefficient C n h))
  product-lead zero g a n h b =
      product_step zero g b
      (subst (λ (u : El). Below C (0 + n) u) (sym (ap (λ u. u ⊗ h) (below_none C (split a)) ∙ L.zero-mul (Coordinate C) h)) (below_zero C (0 + n)))
  product-lead (suc m) g a n h b =
      product_step (suc m) g b (below_more C (omega arith) (product-lead m (g ⊕ ⊖ (constant C (coefficient C (suc m) g) ⊗ mono C (suc m))) (split a) n h b).0)

  pub product-below : {m n : ℕ} {g h : El} → Below C (suc m) g → Below C (suc n) h → Below C (suc (m + n)) (g ⊗ h)
  product-below {m} {n} {g} {h} a b = (product-lead m g a n h b).0

  pub product-top : {m n : ℕ} {g h : El} → Below C (suc m) g → Below C (suc n) h → coefficient C (m + n) (g ⊗ h) ≡ twist C m n ·ₖ (coefficient C m g ·ₖ coefficient C n h)
  product-top {m} {n} {g} {h} a b = (product-lead m g a n h b).1
