-- The vector of a polynomial mono m + a7·xy + a4·y + a3·x + a0.
--   Monomials p m …        m is the polynomial's degree: its lower terms stand below m, or are 0
--   row-vec, row-present   the vector is a vector, monic of degree m
--   row-value              it stands for the polynomial
use mathlib.Core.Path.{◌≡◌, refl, sym, ◌∙◌, ap, ap₂}
use mathlib.Core.List.{List}
use Prim.Native.Nat.{ℕ, suc, ◌%◌, ◌<◌, ◌≤◌}
use native.Mathlib.Omega.{arith}
use native.Mathlib.Decide.{ℕ_discrete}
use lib.ListN.{length, set, replicate}
use lib.Seq.{get_or-set_same, get_or-set_other}
use Rattle.algebra.proofs.Laws as L
use Rattle.ideal.specs.Poles.{IsPole}
use Rattle.ideal.proofs.Gaps.{pole_intro}
use Rattle.field.specs.Residue.{Z, el}
use Rattle.field.proofs.Element.{el-zero, el-one}
use Rattle.curve.specs.Curve.{Curve, Coordinate, x, y, constant}
use Rattle.curve.proofs.Coefficient.{constant-one}
use Rattle.curve.specs.Sequence.{coefficient}
use Rattle.curve.specs.Monomial.{mono}
use Rattle.curve.proofs.Term.{coefficient-add, coefficient-constant-mul, coefficient_ext}
use Rattle.curve.proofs.Product.{coefficient-mono}
use Rattle.curve.proofs.Monomial.{coefficient-mono-other}
use Rattle.divisor.proofs.Monomials.{mono-one, mono-x, mono-y, mono_xy}
use Rattle.vector.specs.Vector.{Vec, Top, at, res, width, element, scalar}
use Rattle.vector.proofs.Loop.{set_cases, vec_set, zeros-at}
use Rattle.vector.proofs.Element.{element-coefficient, element-zero}
use Rattle.vector.proofs.Loop.{zeros-vec}
use Rattle.triple.specs.Triple.{Present}
use Rattle.basis.specs.Contract.{coefficients}

-- a store at a place that was 0 adds a multiple of a normal monomial
element_set : (p : ℕ) (C : Curve (Z p)) {v : List ℕ} → Vec p v → (n c : ℕ) → c < p → n < width → IsPole n → at v n ≡ 0
    → element p C (set v n c) ≡ (Coordinate C).add ((Coordinate C).mul (scalar p C c) (mono C n)) (element p C v)
element_set p C {v} h n c b l q z =
    coefficient_ext C (λ m. element-coefficient p C (vec_set h n c b l (λ g. absurd (q g))) m ∙ go m (ℕ_discrete m n) ∙ sym (right m))
  where
    right : (m : ℕ) → coefficient C m ((Coordinate C).add ((Coordinate C).mul (scalar p C c) (mono C n)) (element p C v)) ≡ (Z p).add ((Z p).mul (el p c) (coefficient C m (mono C n))) (res p v m)
    right m =
        coefficient-add C m _ _
        ∙ ap₂ (Z p).add (coefficient-constant-mul C m (el p c) (mono C n)) (element-coefficient p C h m)

    inside : n < length v
    inside = omega (arith, h.len)

    go : (m : ℕ) → Dec (m ≡ n) → res p (set v n c) m ≡ (Z p).add ((Z p).mul (el p c) (coefficient C m (mono C n))) (res p v m)
    go m (yes e) =
        ap (el p) (ap (at (set v n c)) e ∙ get_or-set_same v n c 0 inside)
        ∙ sym
        (ap₂ (λ u w. (Z p).add ((Z p).mul (el p c) u) w) (ap (λ i. coefficient C i (mono C n)) e ∙ coefficient-mono C n q) (ap (el p) (ap (at v) e ∙ z) ∙ el-zero p)
        ∙ (Z p).add_zero _
        ∙ (Z p).mul_one _)
    go m (no f) =
        ap (el p) (get_or-set_other v n m c 0 f)
        ∙ sym
        (ap (λ u. (Z p).add ((Z p).mul (el p c) u) (res p v m)) (coefficient-mono-other C m n q f)
        ∙ ap (λ u. (Z p).add u (res p v m)) (L.mul-zero (Z p) _)
        ∙ L.zero-add (Z p) _)

top_set : (v : List ℕ) (n q c : ℕ) → q < length v → Top v n → (n ≤ q → c ≡ 0) → Top (set v q c) n
top_set v n q c l t z i h = set_cases (λ a. a ≡ 0) v q c i l (λ e. z (omega arith)) (λ e. t i h)

pub record Monomials (p m a0 a3 a4 a7 : ℕ) : Type 0 where
  pub large : 1 < p
  pub apart_1 : ¬ (m ≡ 1)
  pub apart_2 : ¬ (m ≡ 2)
  pub apart_5 : ¬ (m ≡ 5)
  pub inside : m < width
  pub below_0 : a0 < p
  pub below_3 : a3 < p
  pub below_4 : a4 < p
  pub below_7 : a7 < p
  pub zero_0 : m ≤ 0 → a0 ≡ 0
  pub zero_3 : m ≤ 3 → a3 ≡ 0
  pub zero_4 : m ≤ 4 → a4 ≡ 0
  pub zero_7 : m ≤ 7 → a7 ≡ 0

module _ {p m a0 a3 a4 a7 : ℕ} (h : Monomials p m a0 a3 a4 a7) where
  v₀ : List ℕ
  v₀ = replicate width 0

  v₁ : List ℕ
  v₁ = set v₀ 0 a0

  v₂ : List ℕ
  v₂ = set v₁ 3 a3

  v₃ : List ℕ
  v₃ = set v₂ 4 a4

  v₄ : List ℕ
  v₄ = set v₃ 7 a7

  pole_0 : IsPole 0
  pole_0 = pole_intro (omega arith) (omega arith) (omega arith)

  pole_3 : IsPole 3
  pole_3 = pole_intro (omega arith) (omega arith) (omega arith)

  pole_4 : IsPole 4
  pole_4 = pole_intro (omega arith) (omega arith) (omega arith)

  pole_7 : IsPole 7
  pole_7 = pole_intro (omega arith) (omega arith) (omega arith)

  pole_m : IsPole m
  pole_m = pole_intro h.apart_1 h.apart_2 h.apart_5

  h₀ : Vec p v₀
  unfolding v₀
  h₀ = zeros-vec p (omega (arith, h.large))

  h₁ : Vec p v₁
  unfolding v₁
  h₁ = vec_set h₀ 0 a0 h.below_0 (omega arith) (λ g. absurd (pole_0 g))

  h₂ : Vec p v₂
  unfolding v₂
  h₂ = vec_set h₁ 3 a3 h.below_3 (omega arith) (λ g. absurd (pole_3 g))

  h₃ : Vec p v₃
  unfolding v₃
  h₃ = vec_set h₂ 4 a4 h.below_4 (omega arith) (λ g. absurd (pole_4 g))

  h₄ : Vec p v₄
  unfolding v₄
  h₄ = vec_set h₃ 7 a7 h.below_7 (omega arith) (λ g. absurd (pole_7 g))

  pub row-vec : Vec p (coefficients m a0 a3 a4 a7)
  unfolding coefficients v₄ v₃ v₂ v₁ v₀
  row-vec = vec_set h₄ m 1 h.large h.inside (λ g. absurd (pole_m g))

  -- before the last store nothing stands at m or above
  low : Top v₄ m
  unfolding v₄ v₃ v₂ v₁ v₀
  low =
      let at_0 = top_set v₀ m 0 a0 (omega (arith, h₀.len)) (λ i l. zeros-at width i) h.zero_0 in
      let at-3 = top_set v₁ m 3 a3 (omega (arith, h₁.len)) at_0 h.zero_3 in
      let at-4 = top_set v₂ m 4 a4 (omega (arith, h₂.len)) at-3 h.zero_4 in
      top_set v₃ m 7 a7 (omega (arith, h₃.len)) at-4 h.zero_7

  pub row-present : Present (coefficients m a0 a3 a4 a7) (m % 3) m
  unfolding coefficients v₄ v₃ v₂ v₁ v₀
  row-present =
      record {
        inside = h.inside;
        class = refl;
        monic = get_or-set_same v₄ m 1 0 (omega (arith, h₄.len, h.inside));
        top = top_set v₄ (suc m) m 1 (omega (arith, h₄.len, h.inside)) (λ i l. low i (omega arith)) (λ l. absurd (omega arith));
      }

  module _ (C : Curve (Z p)) where
    open Coordinate C use {Car as El, zero as 𝟎, one as 𝟏, add as ◌⊕◌, mul as ◌⊗◌}

    infixl 60 ◌⊕◌
    infixl 70 ◌⊗◌
    value_0 : element p C v₁ ≡ scalar p C a0 ⊗ mono C 0 ⊕ 𝟎
    unfolding v₁ v₀
    value_0 =
        element_set p C h₀ 0 a0 h.below_0 (omega arith) pole_0 (zeros-at width 0)
        ∙ ap (λ u. scalar p C a0 ⊗ mono C 0 ⊕ u) (element-zero p C v₀ (λ i l. zeros-at width i))

    value_3 : element p C v₂ ≡ scalar p C a3 ⊗ mono C 3 ⊕ (scalar p C a0 ⊗ mono C 0 ⊕ 𝟎)
    unfolding v₂ v₁ v₀
    value_3 =
        element_set p C h₁ 3 a3 h.below_3 (omega arith) pole_3 refl
        ∙ ap (λ u. scalar p C a3 ⊗ mono C 3 ⊕ u) value_0

    value_4 : element p C v₃ ≡ scalar p C a4 ⊗ mono C 4 ⊕ (scalar p C a3 ⊗ mono C 3 ⊕ (scalar p C a0 ⊗ mono C 0 ⊕ 𝟎))
    unfolding v₃ v₂ v₁ v₀
    value_4 =
        element_set p C h₂ 4 a4 h.below_4 (omega arith) pole_4 refl
        ∙ ap (λ u. scalar p C a4 ⊗ mono C 4 ⊕ u) value_3

    value_7 : element p C v₄ ≡ scalar p C a7 ⊗ mono C 7 ⊕ (scalar p C a4 ⊗ mono C 4 ⊕ (scalar p C a3 ⊗ mono C 3 ⊕ (scalar p C a0 ⊗ mono C 0 ⊕ 𝟎)))
    unfolding v₄ v₃ v₂ v₁ v₀
    value_7 =
        element_set p C h₃ 7 a7 h.below_7 (omega arith) pole_7 refl
        ∙ ap (λ u. scalar p C a7 ⊗ mono C 7 ⊕ u) value_4

    pub row-value : element p C (coefficients m a0 a3 a4 a7) ≡ mono C m ⊕ (scalar p C a7 ⊗ (x C ⊗ y C) ⊕ (scalar p C a4 ⊗ y C ⊕ (scalar p C a3 ⊗ x C ⊕ scalar p C a0)))
    unfolding coefficients v₄ v₃ v₂ v₁ v₀
    row-value =
        element_set p C h₄ m 1 h.large h.inside pole_m (low m (omega arith))
        ∙ ap₂ ◌⊕◌ (ap (λ u. u ⊗ mono C m) (ap (constant C) (el-one p) ∙ constant-one C) ∙ L.one-mul (Coordinate C) _) (value_7 ∙ lower)
      where
        lower : scalar p C a7 ⊗ mono C 7 ⊕ (scalar p C a4 ⊗ mono C 4 ⊕ (scalar p C a3 ⊗ mono C 3 ⊕ (scalar p C a0 ⊗ mono C 0 ⊕ 𝟎)))
            ≡ scalar p C a7 ⊗ (x C ⊗ y C) ⊕ (scalar p C a4 ⊗ y C ⊕ (scalar p C a3 ⊗ x C ⊕ scalar p C a0))
        lower = cc (mono-one C, mono-x C, mono-y C, mono_xy C, (Coordinate C).add_zero (scalar p C a0), (Coordinate C).mul_one (scalar p C a0))
