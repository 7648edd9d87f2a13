-- Sequences moved to higher places, and products with a polynomial whose coefficients are listed.
--   back A d f n       f at the place n − d; 0 where n is below d
--   back_low back-high its values below d and from d on
--   back-vanish        it is 0 at n if f is 0 at n − d
--   weigh A cs f       c₀·f + c₁·(f moved by 1) + c₂·(f moved by 2) + …; weigh_from A d cs f starts with f moved by d
--   weigh_vanish       the sum is 0 if f is 0 at every place that it reads
--   coef-ascending     the coefficients of (ascending cs)·f are those of weigh cs
use mathlib.Core.Path.{◌≡◌, refl, sym, ◌∙◌, ap, ap₂, fun_ext}
use mathlib.Core.List.{List, [], ◌∷◌}
use Prim.Native.Nat.{ℕ, zero, suc, ◌+◌, ◌<◌}
use native.Mathlib.Nat as N
use native.Mathlib.Omega.{arith}
use lib.ListN.{length}
use Rattle.algebra.specs.Ring.{CommRing}
use Rattle.algebra.proofs.Laws as L
use Rattle.algebra.proofs.Solve.{solve, ◌⊞◌, ◌⊠◌}
use Rattle.polynomial.specs.Poly.{Poly, coef, const, X}
use Rattle.polynomial.proofs.Coef.{coef-zero, coef-add, coef-const-mul, coef-X-head, coef-X-next}
use Rattle.curve.specs.Curve.{ascending}

module _ (A : CommRing) where
  open A use {Car, zero as 𝟘, add as ◌⊕◌, mul as ◌⊗◌}

  infixl 60 ◌⊕◌
  infixl 70 ◌⊗◌
  unfoldable pub back : ℕ → (ℕ → Car) → ℕ → Car
  back zero f n = f n
  back (suc d) f zero = 𝟘
  back (suc d) f (suc n) = back d f n

  back_none : (f : ℕ → Car) (n : ℕ) → back 0 f n ≡ f n
  unfolding back
  back_none f n = refl

  back-first : (d : ℕ) (f : ℕ → Car) → back (suc d) f zero ≡ 𝟘
  unfolding back
  back-first d f = refl

  back-next : (d : ℕ) (f : ℕ → Car) (n : ℕ) → back (suc d) f (suc n) ≡ back d f n
  unfolding back
  back-next d f n = refl

  pub back_low : (d : ℕ) (f : ℕ → Car) (n : ℕ) → n < d → back d f n ≡ 𝟘
  back_low zero f n h = absurd (omega arith)
  back_low (suc d) f zero h = back-first d f
  back_low (suc d) f (suc n) h = back-next d f n ∙ back_low d f n (omega arith)

  pub back-high : (d : ℕ) (f : ℕ → Car) (n : ℕ) → back d f (d + n) ≡ f n
  back-high zero f n = back_none f (0 + n) ∙ ap f (N.zero-add n)
  back-high (suc d) f n = ap (back (suc d) f) (N.suc-add d n) ∙ back-next d f (d + n) ∙ back-high d f n

  -- moving by 1 first
  back-back : (d : ℕ) (f : ℕ → Car) (n : ℕ) → back d (back 1 f) n ≡ back (suc d) f n
  back-back zero f n = back_none (back 1 f) n
  back-back (suc d) f zero = back-first d (back 1 f) ∙ sym (back-first (suc d) f)
  back-back (suc d) f (suc n) = back-next d (back 1 f) n ∙ back-back d f n ∙ sym (back-next (suc d) f n)

  abbrev pub weigh_from : ℕ → List Car → (ℕ → Car) → ℕ → Car
  weigh_from d [] f n = 𝟘
  weigh_from d (c ∷ cs) f n = c ⊗ back d f n ⊕ weigh_from (suc d) cs f n

  abbrev pub weigh : List Car → (ℕ → Car) → ℕ → Car
  weigh = weigh_from 0

  weigh_back : (d : ℕ) (cs : List Car) (f : ℕ → Car) (n : ℕ) → weigh_from d cs (back 1 f) n ≡ weigh_from (suc d) cs f n
  weigh_back d [] f n = refl
  weigh_back d (c ∷ cs) f n = ap₂ (λ u v. c ⊗ u ⊕ v) (back-back d f n) (weigh_back (suc d) cs f n)

  pub back-vanish : (d : ℕ) (f : ℕ → Car) (n : ℕ) → ((m : ℕ) → n ≡ d + m → f m ≡ 𝟘) → back d f n ≡ 𝟘
  back-vanish zero f n h = back_none f n ∙ h n (omega arith)
  back-vanish (suc d) f zero h = back-first d f
  back-vanish (suc d) f (suc n) h = back-next d f n ∙ back-vanish d f n (λ m e. h m (omega arith))

  pub weigh_vanish : (d : ℕ) (cs : List Car) (f : ℕ → Car) (n : ℕ) → ((m : ℕ) → n < m + (d + length cs) → f m ≡ 𝟘) → weigh_from d cs f n ≡ 𝟘
  weigh_vanish d [] f n h = refl
  weigh_vanish d (c ∷ cs) f n h =
      ap₂ (λ u v. c ⊗ u ⊕ v) (back-vanish d f n (λ m e. h m (omega arith))) (weigh_vanish (suc d) cs f n (λ m l. h m (omega arith)))
      ∙ A.add_zero _
      ∙ L.mul-zero A c

  coef-X : (f : (Poly A).Car) (n : ℕ) → coef A ((Poly A).mul (X A) f) n ≡ back 1 (coef A f) n
  coef-X f zero = coef-X-head A f ∙ sym (back-first 0 (coef A f))
  coef-X f (suc n) = coef-X-next A f n ∙ sym (back_none (coef A f) n) ∙ sym (back-next 0 (coef A f) n)

  ascending_step : (c : Car) (cs : List Car) (f : (Poly A).Car) → (Poly A).mul (ascending A (c ∷ cs)) f ≡ (Poly A).add ((Poly A).mul (const A c) f) ((Poly A).mul (ascending A cs) ((Poly A).mul (X A) f))
  unfolding ascending
  ascending_step c cs f =
      solve (Poly A) 4 (λ k v p g. (k ⊞ v ⊠ p) ⊠ g) (λ k v p g. k ⊠ g ⊞ p ⊠ (v ⊠ g)) tt (const A c) (X A) (ascending A cs) f

  pub coef-ascending : (cs : List Car) (f : (Poly A).Car) (n : ℕ) → coef A ((Poly A).mul (ascending A cs) f) n ≡ weigh cs (coef A f) n
  unfolding ascending
  coef-ascending [] f n = ap (λ g. coef A g n) (L.zero-mul (Poly A) f) ∙ coef-zero A n
  coef-ascending (c ∷ cs) f n =
      ap (λ g. coef A g n) (ascending_step c cs f)
      ∙ coef-add A _ _ n
      ∙ ap₂ ◌⊕◌ (coef-const-mul A c f n ∙ ap (λ u. c ⊗ u) (sym (back_none (coef A f) n)))
      (coef-ascending cs ((Poly A).mul (X A) f) n ∙ ap (λ (h : ℕ → Car). weigh cs h n) (fun_ext (coef-X f)) ∙ weigh_back 0 cs (coef A f) n)
