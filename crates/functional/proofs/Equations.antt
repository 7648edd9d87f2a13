-- The numbers of a candidate mono n + a4·y + a3·x + a0: what the functional of f makes of its products with the elements u, w and v of pole
-- numbers d + 1, d + 2 and d + 5.
--   candidate-below        it has no monomial above y²
--   equation_u             a4 = −c·Λ(mono n·u) makes Λ at its product with u zero; c is the inverse of twist 4 (d + 1)
--   equation-w             … and a3 = −(a4·Λ(y·w) + Λ(mono n·w)) that with w
--   equation_v             … and a0 = −(a3·Λ(x·v) + (a4·Λ(y·v) + Λ(mono n·v))) that with v
--   no-y                   a4 is zero for n = 3
use mathlib.Core.Path.{◌≡◌, sym, ◌∙◌, ap, ap₂, subst}
use mathlib.Core.List.{[], ◌∷◌}
use Prim.Native.Nat.{ℕ, suc, ◌+◌, ◌<◌, ◌≤◌}
use native.Mathlib.Omega.{arith}
use Rattle.algebra.specs.Ring.{CommRing, Field}
use Rattle.algebra.proofs.Laws as L
use Rattle.algebra.proofs.Norm.{nil, unit}
use Rattle.algebra.proofs.Solve.{solve, solve_from, given, ◌⊞◌, ◌⊠◌, ⊟◌}
use Rattle.ideal.specs.Poles.{largest_gap, IsPole}
use Rattle.ideal.proofs.Gaps.{pole_intro}
use Rattle.curve.specs.Curve.{Curve, Coordinate, x, y, constant}
use Rattle.curve.specs.Sequence.{coefficient, twist}
use Rattle.curve.specs.Monomial.{mono, Below}
use Rattle.curve.proofs.Filtration.{below_add, below-constant-mul, below_more}
use Rattle.curve.proofs.Lead.{twist-one}
use Rattle.curve.proofs.Product.{below_mono, coefficient-mono, product-below, product-top}
use Rattle.curve.proofs.Poles.{below-constant}
use Rattle.divisor.proofs.Monomials.{mono-x, mono-y}
use Rattle.functional.specs.Functional.{apply, Functional, candidate}
use Rattle.functional.proofs.Apply.{apply-add, apply-scale}
use Rattle.functional.proofs.Kernel.{functional-low, functional-top}

three : IsPole 3
three = pole_intro (omega arith) (omega arith) (omega arith)

four : IsPole 4
four = pole_intro (omega arith) (omega arith) (omega arith)

-- the three sums that a4, a3 and a0 make zero
sum_u : (R : CommRing) (m c t a4 a3 a0 : R.Car) → R.mul c t ≡ R.one → a4 ≡ R.neg (R.mul c m)
    → R.add (R.add (R.add m (R.mul a4 (R.mul t (R.mul R.one R.one)))) (R.mul a3 R.zero)) (R.mul a0 R.zero) ≡ R.zero
sum_u R m c t a4 a3 a0 e f =
    solve_from R 6
    (λ m c t a4 a3 a0. given (⊟ m) (c ⊠ t) unit ∷ given t a4 (⊟ (c ⊠ m)) ∷ [])
    (λ m c t a4 a3 a0. m ⊞ a4 ⊠ (t ⊠ (unit ⊠ unit)) ⊞ a3 ⊠ nil ⊞ a0 ⊠ nil)
    (λ m c t a4 a3 a0. nil) tt m c t a4 a3 a0 (e, (f, tt))

sum-w : (R : CommRing) (m y a4 a3 a0 : R.Car) → a3 ≡ R.neg (R.add (R.mul a4 y) m)
    → R.add (R.add (R.add m (R.mul a4 y)) (R.mul a3 R.one)) (R.mul a0 R.zero) ≡ R.zero
sum-w R m y a4 a3 a0 f =
    solve_from R 5 (λ m y a4 a3 a0. given unit a3 (⊟ (a4 ⊠ y ⊞ m)) ∷ []) (λ m y a4 a3 a0. m ⊞ a4 ⊠ y ⊞ a3 ⊠ unit ⊞ a0 ⊠ nil) (λ m y a4 a3 a0. nil) tt m y a4 a3 a0 (f, tt)

sum_v : (R : CommRing) (m y x a4 a3 a0 : R.Car) → a0 ≡ R.neg (R.add (R.mul a3 x) (R.add (R.mul a4 y) m))
    → R.add (R.add (R.add m (R.mul a4 y)) (R.mul a3 x)) (R.mul a0 R.one) ≡ R.zero
sum_v R m y x a4 a3 a0 f =
    solve_from R 6 (λ m y x a4 a3 a0. given unit a0 (⊟ (a3 ⊠ x ⊞ (a4 ⊠ y ⊞ m))) ∷ []) (λ m y x a4 a3 a0. m ⊞ a4 ⊠ y ⊞ a3 ⊠ x ⊞ a0 ⊠ unit) (λ m y x a4 a3 a0. nil) tt m y x a4 a3 a0 (f, tt)

module _ {k : CommRing} (C : Curve k) where
  open k use {Car, zero as 𝟘, one as 𝟙, add as ◌+ₖ◌, mul as ◌·ₖ◌, neg as -ₖ◌}
  open Coordinate C use {Car as El, add as ◌⊕◌, mul as ◌⊗◌}

  infixl 60 ◌⊕◌ ◌+ₖ◌
  infixl 70 ◌⊗◌ ◌·ₖ◌
  infix 80 -ₖ◌
  pub candidate-below : (n : ℕ) (a4 a3 a0 : Car) → IsPole n → n ≤ 8 → Below C 9 (candidate C n a4 a3 a0)
  unfolding candidate
  candidate-below n a4 a3 a0 p l =
      below_add C
      (below_add C (below_add C (below_more C (omega arith) (below_mono C n p)) (below-constant-mul C a4 (subst (Below C 9) (mono-y C) (below_more C (omega arith) (below_mono C 4 four)))))
      (below-constant-mul C a3 (subst (Below C 9) (mono-x C) (below_more C (omega arith) (below_mono C 3 three)))))
      (below_more C (omega arith) (below-constant C a0))

  expand : (m a4 y a3 x a0 g : El) → (m ⊕ a4 ⊗ y ⊕ a3 ⊗ x ⊕ a0) ⊗ g ≡ m ⊗ g ⊕ a4 ⊗ (y ⊗ g) ⊕ a3 ⊗ (x ⊗ g) ⊕ a0 ⊗ g
  expand = solve (Coordinate C) 7 (λ m a4 y a3 x a0 g. (m ⊞ a4 ⊠ y ⊞ a3 ⊠ x ⊞ a0) ⊠ g) (λ m a4 y a3 x a0 g. m ⊠ g ⊞ a4 ⊠ (y ⊠ g) ⊞ a3 ⊠ (x ⊠ g) ⊞ a0 ⊠ g) tt

  -- the functional at a multiple of a candidate
  candidate-apply : (N : ℕ) (lam : ℕ → Car) (n : ℕ) (a4 a3 a0 : Car) (g : El)
      → apply C N lam (candidate C n a4 a3 a0 ⊗ g) ≡ apply C N lam (mono C n ⊗ g) +ₖ a4 ·ₖ apply C N lam (mono C 4 ⊗ g) +ₖ a3 ·ₖ apply C N lam (mono C 3 ⊗ g) +ₖ a0 ·ₖ apply C N lam g
  unfolding candidate
  candidate-apply N lam n a4 a3 a0 g =
      ap (apply C N lam) (expand (mono C n) (constant C a4) (y C) (constant C a3) (x C) (constant C a0) g)
      ∙ apply-add C N lam _ _
      ∙ ap₂ ◌+ₖ◌
      (apply-add C N lam _ _ ∙ ap₂ ◌+ₖ◌
      (apply-add C N lam _ _ ∙ ap (λ u. apply C N lam (mono C n ⊗ g) +ₖ u) (apply-scale C N lam a4 (y C ⊗ g) ∙ ap (λ u. a4 ·ₖ apply C N lam (u ⊗ g)) (sym (mono-y C))))
      (apply-scale C N lam a3 (x C ⊗ g) ∙ ap (λ u. a3 ·ₖ apply C N lam (u ⊗ g)) (sym (mono-x C))))
      (apply-scale C N lam a0 g)

module _ (K : Field) (C : Curve K.ring) (N : ℕ) {f : (Coordinate C).Car} {d : ℕ} {lam : ℕ → K.ring.Car} (F : Functional C N f d lam)
    (room : d + largest_gap < N) (n : ℕ) (a4 a3 a0 : K.ring.Car) where
  open K.ring use {Car, zero as 𝟘, one as 𝟙, add as ◌+ₖ◌, mul as ◌·ₖ◌, neg as -ₖ◌}
  open Coordinate C use {Car as El, add as ◌⊕◌, mul as ◌⊗◌}

  infixl 60 ◌⊕◌ ◌+ₖ◌
  infixl 70 ◌⊗◌ ◌·ₖ◌
  infix 80 -ₖ◌
  -- the functional at mono m·g whose lead stands at d + 5
  at-lead : (m e : ℕ) → IsPole m → m + e ≡ d + largest_gap → (g : El) → Below C (suc e) g → coefficient C e g ≡ 𝟙 → apply C N lam (mono C m ⊗ g) ≡ twist C m e ·ₖ (𝟙 ·ₖ 𝟙)
  at-lead m e p q g b o =
      functional-top K C N F room (below_more C (omega arith) (product-below C (below_mono C m p) b))
      ∙ ap (λ i. coefficient C i (mono C m ⊗ g)) (sym q)
      ∙ product-top C (below_mono C m p) b
      ∙ ap (λ u. twist C m e ·ₖ u) (ap₂ ◌·ₖ◌ (coefficient-mono C m p) o)

  pub equation_u : (u : El) → Below C (suc (d + 1)) u → coefficient C (d + 1) u ≡ 𝟙 → (c : Car) → c ·ₖ twist C 4 (d + 1) ≡ 𝟙 → a4 ≡ -ₖ (c ·ₖ apply C N lam (mono C n ⊗ u))
      → apply C N lam (candidate C n a4 a3 a0 ⊗ u) ≡ 𝟘
  equation_u u b o c e q =
      candidate-apply C N lam n a4 a3 a0 u
      ∙ ap₂ ◌+ₖ◌
      (ap₂ ◌+ₖ◌ (ap (λ v. apply C N lam (mono C n ⊗ u) +ₖ a4 ·ₖ v) (at-lead 4 (d + 1) four (omega arith) u b o))
      (ap (λ v. a3 ·ₖ v) (functional-low K C N F (below_more C (omega arith) (product-below C (below_mono C 3 three) b)))))
      (ap (λ v. a0 ·ₖ v) (functional-low K C N F (below_more C (omega arith) b)))
      ∙ sum_u K.ring (apply C N lam (mono C n ⊗ u)) c (twist C 4 (d + 1)) a4 a3 a0 e q

  pub equation-w : (w : El) → Below C (suc (d + 2)) w → coefficient C (d + 2) w ≡ 𝟙 → a3 ≡ -ₖ (a4 ·ₖ apply C N lam (mono C 4 ⊗ w) +ₖ apply C N lam (mono C n ⊗ w))
      → apply C N lam (candidate C n a4 a3 a0 ⊗ w) ≡ 𝟘
  equation-w w b o q =
      candidate-apply C N lam n a4 a3 a0 w
      ∙ ap₂ ◌+ₖ◌ (ap (λ v. apply C N lam (mono C n ⊗ w) +ₖ a4 ·ₖ apply C N lam (mono C 4 ⊗ w) +ₖ a3 ·ₖ v) at_x) (ap (λ v. a0 ·ₖ v) (functional-low K C N F (below_more C (omega arith) b)))
      ∙ sum-w K.ring (apply C N lam (mono C n ⊗ w)) (apply C N lam (mono C 4 ⊗ w)) a4 a3 a0 q
    where
      at_x : apply C N lam (mono C 3 ⊗ w) ≡ 𝟙
      at_x =
          at-lead 3 (d + 2) three (omega arith) w b o
          ∙ ap₂ ◌·ₖ◌ (twist-one C 3 (d + 2) (omega arith)) (K.ring.mul_one 𝟙)
          ∙ K.ring.mul_one 𝟙

  pub equation_v : (v : El) → Below C (suc (d + 5)) v → coefficient C (d + 5) v ≡ 𝟙
      → a0 ≡ -ₖ (a3 ·ₖ apply C N lam (mono C 3 ⊗ v) +ₖ (a4 ·ₖ apply C N lam (mono C 4 ⊗ v) +ₖ apply C N lam (mono C n ⊗ v)))
      → apply C N lam (candidate C n a4 a3 a0 ⊗ v) ≡ 𝟘
  equation_v v b o q =
      candidate-apply C N lam n a4 a3 a0 v
      ∙ ap (λ u. apply C N lam (mono C n ⊗ v) +ₖ a4 ·ₖ apply C N lam (mono C 4 ⊗ v) +ₖ a3 ·ₖ apply C N lam (mono C 3 ⊗ v) +ₖ a0 ·ₖ u) (functional-top K C N F room b ∙ o)
      ∙ sum_v K.ring (apply C N lam (mono C n ⊗ v)) (apply C N lam (mono C 4 ⊗ v)) (apply C N lam (mono C 3 ⊗ v)) a4 a3 a0 q

  pub no-y : n ≡ 3 → (u : El) → Below C (suc (d + 1)) u → (c : Car) → a4 ≡ -ₖ (c ·ₖ apply C N lam (mono C n ⊗ u)) → a4 ≡ 𝟘
  no-y e u b c q =
      q
      ∙ ap (λ v. -ₖ (c ·ₖ v)) (ap (λ m. apply C N lam (mono C m ⊗ u)) e ∙ functional-low K C N F (below_more C (omega arith) (product-below C (below_mono C 3 three) b)))
      ∙ ap -ₖ◌ (L.mul-zero K.ring c)
      ∙ L.neg-zero K.ring
