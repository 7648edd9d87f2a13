-- Ideals of type 61 by columns. I and I' are the ideals of two bases n and m of kind 31, f, g and h the polynomials of n. An ideal J inside I is told by
-- elements w0, w1 and w2: a·f + b·g + c·h is in J exactly if a·w0 + b·w1 + c·w2 is in I'. If the columns of w0, w1 and w2 modulo m are independent, J is of
-- type 61, and what takes the columns of x·w0 and x·w1 away gives its first two polynomials.
--   Transfer n m J w0 w1 w2        J is told by w0, w1 and w2
--   transfer_type61                … and is of type 61
use mathlib.Core.Path.{◌≡◌, sym, ◌∙◌, ap, ap₂, subst}
use mathlib.Core.List.{List, [], ◌∷◌}
use mathlib.Core.Logic.{⊎_elim}
use Prim.Native.Nat.{ℕ, zero, suc, ◌+◌, ◌%◌, ◌≤◌, ◌<◌}
use native.Mathlib.Omega.{arith}
use native.Mathlib.Decide.{dec_le}
use Rattle.algebra.specs.Ring.{CommRing, Field, ops}
use Rattle.algebra.proofs.Laws as L
use Rattle.algebra.proofs.Norm.{E, nil, unit, E-ops, Same}
use Rattle.algebra.proofs.Solve.{solve, ◌⊞◌, ◌⊠◌}
use Rattle.ideal.specs.Ideal.{IsIdeal}
use Rattle.ideal.specs.Poles.{IsPole, Poles, HasPole, Monic}
use Rattle.ideal.proofs.Gaps.{pole-apart, pole_intro}
use Rattle.ideal.proofs.Degree.{degree, monic-pole, pole-below, pole-nonzero}
use Rattle.ideal.proofs.Generated.{generated_ideal}
use Rattle.ideal.proofs.Leads.{Lead}
use Rattle.ideal.proofs.Finite.{BasedIdeal}
use Rattle.curve.specs.Curve.{Curve, Coordinate, x, y, constant}
use Rattle.curve.specs.Sequence.{coefficient}
use Rattle.curve.specs.Monomial.{Below}
use Rattle.curve.proofs.Coefficient.{constant-zero}
use Rattle.curve.proofs.Term.{coefficient-add, coefficient-neg, coefficient-constant-mul, coefficient-x-high}
use Rattle.curve.proofs.Filtration.{below-coefficient, coefficient-below, below_add, below-neg, below-constant-mul, below_more, below_step, below-x}
use Rattle.poles.specs.Poles.{poles}
use Rattle.poles.proofs.Monic.{monic-coefficient, coefficient-monic}
use Rattle.divisor.specs.Kind.{k31, polynomials, IdealOf, IsBasis}
use Rattle.divisor.proofs.Table as table
use Rattle.divisor.proofs.Table.{class_by}
use Rattle.divisor.proofs.Members.{member, member-monic}
use Rattle.divisor.proofs.Basis.{lead-basis}
use Rattle.type61.proofs.Form.{form_over, less, cubic, quartic}
use Rattle.type61.proofs.Shape.{Type61}
use Rattle.expressions.proofs.Letters as letters
use Rattle.expressions.proofs.Letters.{◌⊝◌, origin}
use Rattle.expressions.proofs.Value.{at, number_at, at_same, origin_at}
use Rattle.invertible.proofs.Certificate.{form}
use Rattle.columns.specs.Pivots.{determinant}
use Rattle.columns.proofs.Column.{mix, Solves, mixed, IsColumn, column_cong, column_mix, column_apart, column-zero, cramer, cramer_solves, independent}
use Rattle.columns.proofs.Formulas.{shift, member_in, shift-column}

-- the letters of the numbers of n, and of three more; x·(a polynomial) less a mixture of the three, and its numbers
abbrev weights : ℕ → E
weights i = letters.n (9 + i)

abbrev step_letters : ℕ → E
step_letters j = letters.x ⊠ form k31 j ⊝ mix E-ops weights (form k31 0) (form k31 1) (form k31 2)

abbrev less_letters : ℕ → ℕ → E
less_letters p = less E-ops letters.n p weights

abbrev numbers : {A : Type 0} → (ℕ → A) → (ℕ → A) → List A
numbers n s = n 0 ∷ n 1 ∷ n 2 ∷ n 3 ∷ n 4 ∷ n 5 ∷ n 6 ∷ n 7 ∷ n 8 ∷ s 0 ∷ s 1 ∷ s 2 ∷ []

module _ (K : Field) (C : Curve K.ring) (nonzero : ¬ (C.a0 ≡ K.ring.zero)) where
  open K.ring use {Car, zero as 𝟘, one as 𝟙, add as ◌+ₖ◌, mul as ◌·ₖ◌, neg as -ₖ◌}
  open Coordinate C use {Car as El, zero as 𝟎, one as 𝟏, add as ◌⊕◌, mul as ◌⊗◌, neg as ⊖◌}

  infixl 60 ◌⊕◌ ◌+ₖ◌
  infixl 70 ◌⊗◌ ◌·ₖ◌
  infix 80 ⊖◌ -ₖ◌
  abbrev k : CommRing
  k = K.ring

  abbrev R : CommRing
  R = Coordinate C

  abbrev P : Poles R
  P = poles K C nonzero

  pub record Transfer (n m : ℕ → Car) (J : El → Type 0) (w0 w1 w2 : El) : Type 0 where
    pub based : BasedIdeal P J
    pub within : (z : El) → J z → IdealOf C k31 n z
    pub there : (a b c : El) → J (a ⊗ member C k31 n 0 ⊕ b ⊗ member C k31 n 1 ⊕ c ⊗ member C k31 n 2) → IdealOf C k31 m (a ⊗ w0 ⊕ b ⊗ w1 ⊕ c ⊗ w2)
    pub back : (a b c : El) → IdealOf C k31 m (a ⊗ w0 ⊕ b ⊗ w1 ⊕ c ⊗ w2) → J (a ⊗ member C k31 n 0 ⊕ b ⊗ member C k31 n 1 ⊕ c ⊗ member C k31 n 2)

  -- what a monic element of pole number d leaves of g
  lowered : {e : El} {d : ℕ} (g : El) → Monic P e d → Below C (suc d) g → Below C d (g ⊕ ⊖ (constant C (coefficient C d g) ⊗ e))
  lowered {e} {d} g monic b = go (monic-coefficient K C nonzero monic)
    where
      c : Car
      c = coefficient C d g

      go : IsPole d × (coefficient C d e ≡ 𝟙) × ((m : ℕ) → d < m → coefficient C m e ≡ 𝟘) → Below C d (g ⊕ ⊖ (constant C c ⊗ e))
      go (_, one, none) =
          below_step C (below_add C b (below-neg C (below-constant-mul C c (coefficient-below C (suc d) e none))))
          (coefficient-add C d g _ ∙ ap (λ u. c +ₖ u) (coefficient-neg C d _ ∙ ap -ₖ◌ (coefficient-constant-mul C d c e ∙ ap (λ u. c ·ₖ u) one ∙ k.mul_one c)) ∙ k.add_neg c)

  -- x times a monic element of pole number d, and lower terms
  raised : {g r : El} (d : ℕ) → Monic P g d → Below C (3 + d) r → Monic P (x C ⊗ g ⊕ r) (3 + d)
  raised {g} {r} d monic b = go (monic-coefficient K C nonzero monic)
    where
      go : IsPole d × (coefficient C d g ≡ 𝟙) × ((m : ℕ) → d < m → coefficient C m g ≡ 𝟘) → Monic P (x C ⊗ g ⊕ r) (3 + d)
      go (p, one, none) =
          coefficient-monic K C nonzero (pole_intro (omega arith) (omega arith) (omega (arith, pole-apart p)))
          (coefficient-add C (3 + d) _ r ∙ ap₂ ◌+ₖ◌ (coefficient-x-high C d g ∙ one) (below-coefficient C b (3 + d) (omega arith)) ∙ k.add_zero 𝟙)
          (λ m h. below-coefficient C (below_add C (below-x C (coefficient-below C (suc d) g none)) (below_more C (omega arith) b)) m (omega (arith, h)))

  module _ (n : ℕ → Car) where
    abbrev f : El
    f = member C k31 n 0

    abbrev g : El
    g = member C k31 n 1

    abbrev h : El
    h = member C k31 n 2

    abbrev I : El → Type 0
    I = IdealOf C k31 n

    member_below : (j : ℕ) → j ≤ 2 → Below C 9 (member C k31 n j)
    member_below = class_by (λ j. Below C 9 (member C k31 n j)) (at 0 (omega arith) (omega arith)) (at 1 (omega arith) (omega arith)) (at 2 (omega arith) (omega arith))
      where
        at : (j : ℕ) → j ≤ 2 → table.degree k31 j < 9 → Below C 9 (member C k31 n j)
        at j b l = coefficient-below C 9 (member C k31 n j) (λ i t. (monic-coefficient K C nonzero (member-monic K C nonzero n k31 j b)).2 i (omega (arith, l, t)))

    mixed_below : (s : ℕ → Car) → Below C 9 (mixed C s f g h)
    mixed_below s =
        below_add C (below_add C (below-constant-mul C (s 0) (member_below 0 (omega arith))) (below-constant-mul C (s 1) (member_below 1 (omega arith))))
        (below-constant-mul C (s 2) (member_below 2 (omega arith)))

    -- x·f, x·g or x·h less a mixture of f, g and h
    step : (s : ℕ → Car) (j : ℕ) → El
    step s j = x C ⊗ member C k31 n j ⊕ ⊖ mixed C s f g h

    step_monic : (s : ℕ → Car) (j : ℕ) → j ≤ 2 → 6 ≤ table.degree k31 j → Monic P (step s j) (3 + table.degree k31 j)
    unfolding step
    step_monic s j b l = raised (table.degree k31 j) (member-monic K C nonzero n k31 j b) (below_more C (omega (arith, l)) (below-neg C (mixed_below s)))

    -- the steps with x·f and x·g by their numbers, for a lead and the place of the polynomial's numbers
    step_form : (s : ℕ → Car) (lead : E) (p j : ℕ) → Same (step_letters j) (form_over E-ops letters.x letters.y lead (λ i. origin (less_letters p i)))
        → at C (numbers n s) (step_letters j) ≡ form_over (ops R) (x C) (y C) (at C (numbers n s) lead) (λ i. constant C (number_at C (numbers n s) (less_letters p i)))
    step_form s lead p j t =
        at_same C (numbers n s) (step_letters j) (form_over E-ops letters.x letters.y lead (λ i. origin (less_letters p i))) t
        ∙ (λ t. form_over (ops R) (x C) (y C) (at C (numbers n s) lead) (λ i. origin_at C (numbers n s) (less_letters p i) t))

    step_cubic : (s : ℕ → Car) → step s 0 ≡ cubic C (less (ops k) n 0 s)
    unfolding step
    step_cubic s = step_form s (letters.x ⊠ letters.x ⊠ letters.x) 0 0 tt

    step_quartic : (s : ℕ → Car) → step s 1 ≡ quartic C (less (ops k) n 3 s)
    unfolding step
    step_quartic s = step_form s (letters.x ⊠ letters.x ⊠ letters.y) 3 1 tt

    module _ (basis : IsBasis C k31 n) where
      ideal : IsIdeal R I
      ideal = generated_ideal R (polynomials C k31 n)

      low-zero : (z : El) → I z → Below C 6 z → z ≡ 𝟎
      unfolding poles
      low-zero z m b = ⊎_elim (λ e. e) (λ (d, p). absurd (omega (arith, pole-below P p b, high (d % 3) (omega arith), lead-basis K C nonzero k31 n basis d (z, m, p)))) (degree P z)
        where
          high : (j : ℕ) → j ≤ 2 → 6 ≤ table.degree k31 j
          high = class_by (λ j. 6 ≤ table.degree k31 j) (omega arith) (omega arith) (omega arith)

      -- an element of I below 9 is a mixture of f, g and h
      low_mixed : (z : El) → I z → Below C 9 z → (s : ℕ → Car) × (z ≡ mixed C s f g h)
      low_mixed z m b = (s, L.sub-zero→eq R z (mixed C s f g h) (sym (apart z _ _ _ f g h) ∙ low-zero z₃ in_3 (lowered z₂ (monic 0 (omega arith)) b₂)))
        where
          monic : (j : ℕ) (l : j ≤ 2) → Monic P (member C k31 n j) (table.degree k31 j)
          monic = member-monic K C nonzero n k31

          z₁ : El
          z₁ = z ⊕ ⊖ (constant C (coefficient C 8 z) ⊗ h)

          z₂ : El
          z₂ = z₁ ⊕ ⊖ (constant C (coefficient C 7 z₁) ⊗ g)

          z₃ : El
          z₃ = z₂ ⊕ ⊖ (constant C (coefficient C 6 z₂) ⊗ f)

          s : ℕ → Car
          s zero = coefficient C 6 z₂
          s (suc zero) = coefficient C 7 z₁
          s (suc (suc i)) = coefficient C 8 z

          b₁ : Below C 8 z₁
          b₁ = lowered z (monic 2 (omega arith)) b

          b₂ : Below C 7 z₂
          b₂ = lowered z₁ (monic 1 (omega arith)) b₁

          less_in : (u : El) (a : Car) (j : ℕ) → j ≤ 2 → I u → I (u ⊕ ⊖ (constant C a ⊗ member C k31 n j))
          less_in u a j l mu = subst (λ v. I (u ⊕ v)) (L.neg-mul R (constant C a) (member C k31 n j)) (ideal.sum mu (ideal.times (⊖ constant C a) (member_in C n j l)))

          in_3 : I z₃
          in_3 = less_in z₂ _ 0 (omega arith) (less_in z₁ _ 1 (omega arith) (less_in z _ 2 (omega arith) m))

          apart : (z a b c f g h : El) → z ⊕ ⊖ (c ⊗ h) ⊕ ⊖ (b ⊗ g) ⊕ ⊖ (a ⊗ f) ≡ z ⊕ ⊖ (a ⊗ f ⊕ b ⊗ g ⊕ c ⊗ h)
          apart = solve R 7 (λ z a b c f g h. z ⊝ c ⊠ h ⊝ b ⊠ g ⊝ a ⊠ f) (λ z a b c f g h. z ⊝ (a ⊠ f ⊞ b ⊠ g ⊞ c ⊠ h)) tt

  module _ (n m : ℕ → Car) (basis : IsBasis C k31 n) (basis' : IsBasis C k31 m) {J : El → Type 0} {w0 w1 w2 : El} (T : Transfer n m J w0 w1 w2)
      {c0 c1 c2 : ℕ → Car} (i0 : IsColumn C m w0 c0) (i1 : IsColumn C m w1 c1) (i2 : IsColumn C m w2 c2) (full : ¬ (determinant (ops k) c0 c1 c2 ≡ 𝟘)) where
    -- x·(e·(f, g, h)) less a mixture, if the mixture has the column of x·(e·(w0, w1, w2))
    step_in : (e0 e1 e2 p w : El) (d s : ℕ → Car) → e0 ⊗ f n ⊕ e1 ⊗ g n ⊕ e2 ⊗ h n ≡ p → e0 ⊗ w0 ⊕ e1 ⊗ w1 ⊕ e2 ⊗ w2 ≡ w
        → IsColumn C m (x C ⊗ w) d → Solves k c0 c1 c2 d s → J (x C ⊗ p ⊕ ⊖ mixed C s (f n) (g n) (h n))
    step_in e0 e1 e2 p w d s e e' column solves =
        subst J (apart (x C) e0 e1 e2 _ _ _ (f n) (g n) (h n) ∙ ap (λ u. x C ⊗ u ⊕ ⊖ mixed C s (f n) (g n) (h n)) e)
        (T.back _ _ _ (subst (IdealOf C k31 m) (sym (apart (x C) e0 e1 e2 _ _ _ w0 w1 w2 ∙ ap (λ u. x C ⊗ u ⊕ ⊖ mixed C s w0 w1 w2) e'))
        (column_apart C m column (column_cong C m (λ i l. sym (solves i l)) (column_mix C m s i0 i1 i2)))))
      where
        apart : (x e0 e1 e2 s0 s1 s2 u v w : El)
            → (x ⊗ e0 ⊕ ⊖ s0) ⊗ u ⊕ (x ⊗ e1 ⊕ ⊖ s1) ⊗ v ⊕ (x ⊗ e2 ⊕ ⊖ s2) ⊗ w ≡ x ⊗ (e0 ⊗ u ⊕ e1 ⊗ v ⊕ e2 ⊗ w) ⊕ ⊖ (s0 ⊗ u ⊕ s1 ⊗ v ⊕ s2 ⊗ w)
        apart =
            solve R 10 (λ x e0 e1 e2 s0 s1 s2 u v w. (x ⊠ e0 ⊝ s0) ⊠ u ⊞ (x ⊠ e1 ⊝ s1) ⊠ v ⊞ (x ⊠ e2 ⊝ s2) ⊠ w)
            (λ x e0 e1 e2 s0 s1 s2 u v w. x ⊠ (e0 ⊠ u ⊞ e1 ⊠ v ⊞ e2 ⊠ w) ⊝ (s0 ⊠ u ⊞ s1 ⊠ v ⊞ s2 ⊠ w)) tt

    pick_0 : (a b c : El) → 𝟏 ⊗ a ⊕ 𝟎 ⊗ b ⊕ 𝟎 ⊗ c ≡ a
    pick_0 = solve R 3 (λ a b c. unit ⊠ a ⊞ nil ⊠ b ⊞ nil ⊠ c) (λ a b c. a) tt

    pick_1 : (a b c : El) → 𝟎 ⊗ a ⊕ 𝟏 ⊗ b ⊕ 𝟎 ⊗ c ≡ b
    pick_1 = solve R 3 (λ a b c. nil ⊠ a ⊞ unit ⊠ b ⊞ nil ⊠ c) (λ a b c. b) tt

    pick_2 : (a b c : El) → 𝟎 ⊗ a ⊕ 𝟎 ⊗ b ⊕ 𝟏 ⊗ c ≡ c
    pick_2 = solve R 3 (λ a b c. nil ⊠ a ⊞ nil ⊠ b ⊞ unit ⊠ c) (λ a b c. c) tt

    step_0 : (d s : ℕ → Car) → IsColumn C m (x C ⊗ w0) d → Solves k c0 c1 c2 d s → J (step n s 0)
    unfolding step
    step_0 d s = step_in 𝟏 𝟎 𝟎 (f n) w0 d s (pick_0 _ _ _) (pick_0 _ _ _)

    step_1 : (d s : ℕ → Car) → IsColumn C m (x C ⊗ w1) d → Solves k c0 c1 c2 d s → J (step n s 1)
    unfolding step
    step_1 d s = step_in 𝟎 𝟏 𝟎 (g n) w1 d s (pick_1 _ _ _) (pick_1 _ _ _)

    step_2 : (d s : ℕ → Car) → IsColumn C m (x C ⊗ w2) d → Solves k c0 c1 c2 d s → J (step n s 2)
    unfolding step
    step_2 d s = step_in 𝟎 𝟎 𝟏 (h n) w2 d s (pick_2 _ _ _) (pick_2 _ _ _)

    -- a mixture of f, g and h in J is zero
    mixed_zero : (s : ℕ → Car) → J (mixed C s (f n) (g n) (h n)) → mixed C s (f n) (g n) (h n) ≡ 𝟎
    mixed_zero s z = (λ t. e 0 (omega arith) t ⊗ f n ⊕ e 1 (omega arith) t ⊗ g n ⊕ e 2 (omega arith) t ⊗ h n) ∙ none (f n) (g n) (h n)
      where
        e : (j : ℕ) → j ≤ 2 → constant C (s j) ≡ 𝟎
        e j l = ap (constant C) (independent K c0 c1 c2 full s (column-zero C m basis' (column_mix C m s i0 i1 i2) (T.there _ _ _ z)) j l) ∙ constant-zero C

        none : (a b c : El) → 𝟎 ⊗ a ⊕ 𝟎 ⊗ b ⊕ 𝟎 ⊗ c ≡ 𝟎
        none = solve R 3 (λ a b c. nil ⊠ a ⊞ nil ⊠ b ⊞ nil ⊠ c) (λ a b c. nil) tt

    low-none : (z : El) → J z → Below C 9 z → z ≡ 𝟎
    low-none z mz b = go (low_mixed n basis z (T.within z mz) b)
      where
        go : (s : ℕ → Car) × (z ≡ mixed C s (f n) (g n) (h n)) → z ≡ 𝟎
        go (s, e) = e ∙ mixed_zero s (subst J e mz)

    lowest : (z : El) (d : ℕ) → J z → HasPole P z d → 9 ≤ d
    unfolding poles
    lowest z d mz p = go (dec_le 9 d)
      where
        go : Dec (9 ≤ d) → 9 ≤ d
        go (yes l) = l
        go (no l) = absurd (pole-nonzero P p (low-none z mz (below_more C (omega (arith, l)) p.upper)))

    lead_11 : Lead P J 11
    lead_11 = let d = shift (ops k) m c2 in let s = cramer K c0 c1 c2 full d in
        (step n s 2, step_2 d s (shift-column C m i2) (cramer_solves K c0 c1 c2 full d), monic-pole P (step_monic n s 2 (omega arith) (omega arith)))

    pub transfer_type61 : (d e s t : ℕ → Car) → IsColumn C m (x C ⊗ w0) d → IsColumn C m (x C ⊗ w1) e → Solves k c0 c1 c2 d s → Solves k c0 c1 c2 e t
        → Type61 P J (cubic C (less (ops k) n 0 s)) (quartic C (less (ops k) n 3 t))
    transfer_type61 d e s t column column' solves solves' = record {
      based = T.based;
      u_in = subst J (step_cubic n s) (step_0 d s column solves);
      u_monic = subst (λ u. Monic P u 9) (step_cubic n s) (step_monic n s 0 (omega arith) (omega arith));
      v_in = subst J (step_quartic n t) (step_1 e t column' solves');
      v_pole = subst (λ v. HasPole P v 10) (step_quartic n t) (monic-pole P (step_monic n t 1 (omega arith) (omega arith)));
      lead_11 = lead_11;
      lowest = lowest;
    }
