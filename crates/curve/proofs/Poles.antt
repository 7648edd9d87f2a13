-- What makes the filtration of the coordinate ring of a curve over a field pole numbers in the sense of crates/ideal.
--   no-zero_divisors   a product of two nonzero elements of a field is not zero
--   twist-nonzero      the factor at the top of a product is not zero
--   lead-nonzero       the coefficient at the lead is not zero
--   below-constant     a constant has no monomial but 1
--   below_some         every element has a bound of its pole numbers
--   below_dec          it is decidable whether n is one
--   lower              a constant multiple of h takes the lead of g away
--   mono_zero mono-lead            the normal monomials have their pole numbers
--   below_factor       if the lead of a product drops, that of a factor does
use mathlib.Core.Path.{◌≡◌, sym, ◌∙◌, ap}
use mathlib.Core.Logic.{◌⊎◌, inl, inr}
use Prim.Native.Nat.{ℕ, zero, suc, ◌+◌, ◌%◌, ◌≤◌}
use native.Mathlib.Omega.{arith}
use native.Mathlib.Decide.{dec_le}
use Rattle.algebra.specs.Ring.{CommRing, Field}
use Rattle.algebra.proofs.Laws as L
use Rattle.polynomial.specs.Poly.{coef}
use Rattle.polynomial.proofs.Bound.{bound}
use Rattle.ideal.specs.Poles.{IsPole}
use Rattle.curve.specs.Curve.{Curve, Coordinate, constant, part, at}
use Rattle.curve.proofs.Coefficient.{at-constant-x, at-constant-y}
use Rattle.curve.specs.Pole.{pole}
use Rattle.curve.specs.Sequence.{coefficient, twist}
use Rattle.curve.specs.Monomial.{power, monomial, mono, Below}
use Rattle.curve.proofs.Term.{coefficient-add, coefficient-constant-mul}
use Rattle.curve.proofs.Filtration.{below-coefficient, below_add, below-constant-mul, below_more, below_step}
use Rattle.curve.proofs.Lead.{twist-one, twist_turn}
use Rattle.curve.proofs.Product.{below_mono, coefficient-mono, product-top}

pub no-zero_divisors : (K : Field) (a b : K.ring.Car) → K.ring.mul a b ≡ K.ring.zero → ¬ (a ≡ K.ring.zero) → b ≡ K.ring.zero
no-zero_divisors K a b e n =
    let i : K.ring.mul (K.ring.mul a (K.inv a)) b ≡ K.ring.mul (K.inv a) (K.ring.mul a b) = cc (K.ring.mul_comm a (K.inv a), K.ring.mul_assoc (K.inv a) a b) in
    cc (i, e, K.mul_inv a n, L.one-mul K.ring b, L.mul-zero K.ring (K.inv a))

neg-nonzero : (R : CommRing) (a : R.Car) → ¬ (a ≡ R.zero) → ¬ (R.neg a ≡ R.zero)
neg-nonzero R a n e = n (sym (L.neg-neg R a) ∙ ap R.neg e ∙ L.neg-zero R)

pub below-constant : {k : CommRing} (C : Curve k) (c : k.Car) → Below C 1 (constant C c)
below-constant {k} C c = record { vanish = go }
  where
    go : (i j : ℕ) → j ≤ 2 → 1 ≤ pole i j → at C i j (constant C c) ≡ k.zero
    go zero zero l h = absurd (omega arith)
    go (suc i) zero l h = at-constant-x C c i
    go zero (suc j) l h = at-constant-y C c 0 j
    go (suc i) (suc j) l h = at-constant-y C c (suc i) j

module _ (K : Field) (C : Curve K.ring) where
  open K.ring use {Car, zero as 𝟘, one as 𝟙, add as ◌+ₖ◌, mul as ◌·ₖ◌, neg as -ₖ◌}
  open Coordinate C use {Car as El, zero as 𝟎, one as 𝟏, add as ◌⊕◌, mul as ◌⊗◌, neg as ⊖◌}

  infixl 60 ◌⊕◌ ◌+ₖ◌
  infixl 70 ◌⊗◌ ◌·ₖ◌
  infix 80 ⊖◌ -ₖ◌
  pub below_some : (g : El) → (n : ℕ) × Below C n g
  unfolding at
  below_some g = go (b 0) (b 1) (b 2)
    where
      b : (j : ℕ) → (n : ℕ) × ((i : ℕ) → n ≤ i → coef K.ring (part C j g) i ≡ 𝟘)
      b j = bound K.ring K.discrete (part C j g)

      go : (n : ℕ) × ((i : ℕ) → n ≤ i → coef K.ring (part C 0 g) i ≡ 𝟘) → (n : ℕ) × ((i : ℕ) → n ≤ i → coef K.ring (part C 1 g) i ≡ 𝟘)
          → (n : ℕ) × ((i : ℕ) → n ≤ i → coef K.ring (part C 2 g) i ≡ 𝟘) → (n : ℕ) × Below C n g
      go (n0, v0) (n1, v1) (n2, v2) = (pole (n0 + n1 + n2) 2, record { vanish = van })
        where
          van : (i j : ℕ) → j ≤ 2 → pole (n0 + n1 + n2) 2 ≤ pole i j → at C i j g ≡ 𝟘
          van i zero l h = v0 i (omega arith)
          van i (suc zero) l h = v1 i (omega arith)
          van i (suc (suc zero)) l h = v2 i (omega arith)
          van i (suc (suc (suc j))) l h = absurd (omega arith)

  -- from a bound n + d down to n
  dec_from : (d n : ℕ) (g : El) → Below C (d + n) g → Dec (Below C n g)
  dec_from zero n g b = yes (below_more C (omega arith) b)
  dec_from (suc d) n g b = go (dec_from d (suc n) g (below_more C (omega arith) b)) (K.discrete (coefficient C n g) 𝟘)
    where
      go : Dec (Below C (suc n) g) → Dec (coefficient C n g ≡ 𝟘) → Dec (Below C n g)
      go (yes u) (yes c) = yes (below_step C u c)
      go (yes u) (no c) = no (λ v. c (below-coefficient C v n (omega arith)))
      go (no u) c = no (λ v. u (below_more C (omega arith) v))

  pub below_dec : (n : ℕ) (g : El) → Dec (Below C n g)
  below_dec n g = dec_from (below_some g).0 n g (below_more C (omega arith) (below_some g).1)

  -- a top coefficient that is not zero
  pub lead-nonzero : {n : ℕ} {g : El} → Below C (suc n) g → ¬ Below C n g → ¬ (coefficient C n g ≡ 𝟘)
  lead-nonzero b u c = u (below_step C b c)

  pub lower : {n : ℕ} {g h : El} → Below C (suc n) g → Below C (suc n) h → ¬ Below C n h → (a : El) × Below C 1 a × Below C n (g ⊕ a ⊗ h)
  lower {n} {g} {h} b c u =
      (constant C q, below-constant C q, below_step C (below_add C b (below-constant-mul C q c)) (coefficient-add C n g _ ∙ ap (λ v. coefficient C n g +ₖ v) (coefficient-constant-mul C n q h) ∙ gone))
    where
      q : Car
      q = -ₖ (coefficient C n g ·ₖ K.inv (coefficient C n h))

      gone : coefficient C n g +ₖ q ·ₖ coefficient C n h ≡ 𝟘
      gone =
          cc (
            L.neg-mul K.ring (coefficient C n g ·ₖ K.inv (coefficient C n h)) (coefficient C n h),
            K.ring.mul_assoc (coefficient C n g)
                (K.inv (coefficient C n h)) (coefficient C n h),
            K.ring.mul_comm (K.inv (coefficient C n h)) (coefficient C n h),
            K.mul_inv
                (coefficient C n h) (lead-nonzero c u),
            K.ring.mul_one (coefficient C n g),
            K.ring.add_neg (coefficient C n g),
          )

  pub mono_zero : mono C 0 ≡ 𝟏
  unfolding power monomial mono
  mono_zero = (Coordinate C).mul_one 𝟏

  pub mono-lead : (n : ℕ) → IsPole n → Below C (suc n) (mono C n) × (¬ Below C n (mono C n))
  mono-lead n p =
      (below_mono C n p, λ b. K.nontrivial (sym (coefficient-mono C n p) ∙ below-coefficient C b n (omega arith)))

  module _ (nonzero : ¬ (C.a0 ≡ 𝟘)) where
    pub twist-nonzero : (m n : ℕ) → ¬ (twist C m n ≡ 𝟘)
    twist-nonzero m n e = go (dec_le 3 (m % 3 + n % 3))
      where
        go : Dec (3 ≤ m % 3 + n % 3) → ⊥
        go (yes h) = neg-nonzero K.ring C.a0 nonzero (sym (twist_turn C m n h) ∙ e)
        go (no h) = K.nontrivial (sym (twist-one C m n (omega arith)) ∙ e)

    pub below_factor : {m n : ℕ} {g h : El} → Below C (suc m) g → Below C (suc n) h → Below C (m + n) (g ⊗ h) → Below C m g ⊎ Below C n h
    below_factor {m} {n} {g} {h} b c d = go (K.discrete (coefficient C m g) 𝟘)
      where
        z : coefficient C m g ·ₖ coefficient C n h ≡ 𝟘
        z =
            no-zero_divisors K (twist C m n) _ (sym (product-top C b c) ∙ below-coefficient C d (m + n) (omega arith)) (twist-nonzero m n)

        go : Dec (coefficient C m g ≡ 𝟘) → Below C m g ⊎ Below C n h
        go (yes e) = inl (below_step C b e)
        go (no u) = inr (below_step C c (no-zero_divisors K (coefficient C m g) (coefficient C n h) z u))
