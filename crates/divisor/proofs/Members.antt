-- The triple of a record: three members whose pole numbers lie in the three classes modulo 3, and the leads of their span over k[x].
--   member κ n j, members κ n      the member in class j; all three
--   ideal-members          an ideal that holds a record's polynomials holds its members
--   members-polynomials    each polynomial of a record is a member
--   member-monic, member-pole      the member in class j is monic, with the pole number degree κ j
--   Spanned κ n            the span of the members over k[x]
--   reached-lead, lead-reached     its leads are the numbers that the kind reaches
--   spanned_space, spanned-based, spanned-each, spanned_in     it is a based space, holds the members, and lies in each ideal that does
--   spanned-ideal_of       it lies in the ideal of the record
--   poles-mono             the monomials of the interface are the normal monomials
use mathlib.Core.Path.{◌≡◌, refl, sym, ◌∙◌, ap₂, subst}
use mathlib.Core.List.{List, [], ◌∷◌}
use mathlib.Core.Logic.{◌⊎◌, inl, inr, ⊎_elim}
use Prim.Native.Nat.{ℕ, zero, suc, ◌+◌, ◌%◌, ◌≤◌, ◌<◌}
use native.Mathlib.Omega.{arith}
use lib.Dec.{T, eqb, eqb_refl}
use Rattle.algebra.specs.Ring.{CommRing, Field}
use Rattle.ideal.specs.Ideal.{IsIdeal}
use Rattle.ideal.specs.Poles.{IsPole, Poles, HasPole, Monic}
use Rattle.ideal.proofs.Gaps.{pole-apart, pole_intro}
use Rattle.ideal.proofs.Every.{Every}
use Rattle.ideal.proofs.Degree.{monic-pole}
use Rattle.ideal.proofs.Leads.{IsSpace, ideal_space, Lead, Based}
use Rattle.ideal.proofs.Generated.{generated_ideal, generated_each}
use Rattle.ideal.proofs.Span.{Span, span_space, span_each, span_in}
use Rattle.ideal.proofs.Triple.{Reach, triple-lead, triple_reach, triple-based}
use Rattle.curve.specs.Curve.{Curve, Coordinate, x, y, constant}
use Rattle.curve.specs.Sequence.{coefficient}
use Rattle.curve.specs.Monomial.{mono, Below}
use Rattle.curve.proofs.Term.{pick_true}
use Rattle.curve.proofs.Filtration.{below-coefficient, coefficient-below}
use Rattle.curve.proofs.Lead.{twist-one, top-y}
use Rattle.curve.proofs.Product.{below_mono, coefficient-mono}
use Rattle.poles.specs.Poles.{poles}
use Rattle.poles.proofs.Monic.{monic-coefficient, coefficient-monic}
use Rattle.divisor.specs.Kind.{Kind, k0, k11, k21, k22, k31, polynomials, IdealOf}
use Rattle.divisor.proofs.Monomials.{mono-one, mono-x, mono-y, mono_xx, mono_xy, mono_yy}
use Rattle.divisor.proofs.Terms.{Terms, terms, places, distinct, below, coefficient_terms, terms_top, pole_test_pole, pole_test}
use Rattle.divisor.proofs.Table.{degree, Reached, class_by, degree_class, one_term, two_terms, three_terms}

module _ {k : CommRing} (C : Curve k) where
  open Coordinate C use {Car as El, one as 𝟏, add as ◌⊕◌, mul as ◌⊗◌}

  infixl 60 ◌⊕◌
  infixl 70 ◌⊗◌
  abbrev pub member : Kind → (ℕ → k.Car) → ℕ → El
  member k0 n zero = 𝟏
  member k0 n (suc zero) = y C
  member k0 n (suc (suc j)) = y C ⊗ y C
  member k11 n zero = x C ⊕ constant C (n 0)
  member k11 n (suc zero) = y C ⊕ constant C (n 1)
  member k11 n (suc (suc j)) = y C ⊗ (y C ⊕ constant C (n 1))
  member k21 n zero = x C ⊗ x C ⊕ constant C (n 3) ⊗ x C ⊕ constant C (n 2)
  member k21 n (suc zero) = y C ⊕ constant C (n 1) ⊗ x C ⊕ constant C (n 0)
  member k21 n (suc (suc j)) = y C ⊗ (y C ⊕ constant C (n 1) ⊗ x C ⊕ constant C (n 0))
  member k22 n zero = x C ⊕ constant C (n 0)
  member k22 n (suc zero) = y C ⊗ (x C ⊕ constant C (n 0))
  member k22 n (suc (suc j)) = y C ⊗ y C ⊕ constant C (n 2) ⊗ y C ⊕ constant C (n 1)
  member k31 n zero = x C ⊗ x C ⊕ constant C (n 2) ⊗ y C ⊕ constant C (n 1) ⊗ x C ⊕ constant C (n 0)
  member k31 n (suc zero) = x C ⊗ y C ⊕ constant C (n 5) ⊗ y C ⊕ constant C (n 4) ⊗ x C ⊕ constant C (n 3)
  member k31 n (suc (suc j)) = y C ⊗ y C ⊕ constant C (n 8) ⊗ y C ⊕ constant C (n 7) ⊗ x C ⊕ constant C (n 6)

  abbrev pub members : Kind → (ℕ → k.Car) → List El
  members κ n = member κ n 0 ∷ member κ n 1 ∷ member κ n 2 ∷ []

  pub ideal-members : {I : El → Type 0} → IsIdeal (Coordinate C) I → (κ : Kind) (n : ℕ → k.Car) → Every I (polynomials C κ n) → Every I (members κ n)
  ideal-members {I} i k0 n (a, _) = (a, (unit, (i.times (y C) unit, tt)))
    where
      unit : I (y C)
      unit = subst I ((Coordinate C).mul_one (y C)) (i.times (y C) a)
  ideal-members i k11 n (a, (b, _)) = (a, (b, (i.times (y C) b, tt)))
  ideal-members i k21 n (a, (b, _)) = (b, (a, (i.times (y C) a, tt)))
  ideal-members i k22 n (a, (b, _)) = (a, (i.times (y C) a, (b, tt)))
  ideal-members i k31 n (a, (b, (c, _))) = (a, (b, (c, tt)))

  pub members-polynomials : (Q : El → Type 0) (κ : Kind) (n : ℕ → k.Car) → Every Q (members κ n) → Every Q (polynomials C κ n)
  members-polynomials Q k0 n (a, (b, (c, _))) = (a, tt)
  members-polynomials Q k11 n (a, (b, (c, _))) = (a, (b, tt))
  members-polynomials Q k21 n (a, (b, (c, _))) = (b, (a, tt))
  members-polynomials Q k22 n (a, (b, (c, _))) = (a, (c, tt))
  members-polynomials Q k31 n (a, (b, (c, _))) = (a, (b, (c, tt)))

module _ (K : Field) (C : Curve K.ring) (nonzero : ¬ (C.a0 ≡ K.ring.zero)) where
  open K.ring use {Car, zero as 𝟘, one as 𝟙, add as ◌+ₖ◌, mul as ◌·ₖ◌}
  open Coordinate C use {Car as El, zero as 𝟎, one as 𝟏, add as ◌⊕◌, mul as ◌⊗◌, neg as ⊖◌}

  infixl 60 ◌⊕◌ ◌+ₖ◌
  infixl 70 ◌⊗◌ ◌·ₖ◌
  infix 80 ⊖◌
  abbrev P : Poles (Coordinate C)
  P = poles K C nonzero

  pub poles-mono : (n : ℕ) → P.mono n ≡ mono C n
  unfolding poles
  poles-mono n = refl

  mono-monic : (d : ℕ) {v : El} → T (pole_test d) → mono C d ≡ v → Monic P v d
  mono-monic d {v} t e = subst (λ (u : El). Monic P u d) e (coefficient-monic K C nonzero p (coefficient-mono C d p) (λ m h. below-coefficient C (below_mono C d p) m h))
    where
      p : IsPole d
      p = pole_test_pole d t

  terms_monic : (d : ℕ) (ts : Terms C) {v : El} → T (distinct (d ∷ places C ts)) → T (below (d ∷ places C ts) (suc d)) → T (pole_test d) → v ≡ terms C ((𝟙, d) ∷ ts) → Monic P v d
  terms_monic d ts t u w e =
      subst (λ (v : El). Monic P v d) (sym e)
      (coefficient-monic K C nonzero (pole_test_pole d w) (coefficient_terms C ((𝟙, d) ∷ ts) t d ∙ pick_true (eqb d d) 𝟙 _ (eqb_refl d)) (λ m h. terms_top C ((𝟙, d) ∷ ts) (suc d) m t u h))

  -- y times a monic element is monic unless y³ comes up
  monic-y : {g : El} (n : ℕ) → n % 3 ≤ 1 → Monic P g n → Monic P (y C ⊗ g) (4 + n)
  monic-y {g} n l m = go (monic-coefficient K C nonzero m)
    where
      go : IsPole n × (coefficient C n g ≡ 𝟙) × ((m : ℕ) → n < m → coefficient C m g ≡ 𝟘) → Monic P (y C ⊗ g) (4 + n)
      go (p, e, z) =
          coefficient-monic K C nonzero (pole_intro (omega arith) (omega arith) (omega (arith, pole-apart p)))
          ((top-y C).top b ∙ ap₂ ◌·ₖ◌ (twist-one C 4 n (omega arith)) e ∙ K.ring.mul_one 𝟙) (λ m h. below-coefficient C ((top-y C).bound b) m h)
        where
          b : Below C (suc n) g
          b = coefficient-below C (suc n) g z

  -- the polynomials with one, two and three numbers
  monic_1 : {v : El} (d : ℕ) (a : Car) → T (distinct (d ∷ 0 ∷ [])) → T (below (d ∷ 0 ∷ []) (suc d)) → T (pole_test d) → mono C d ≡ v → Monic P (v ⊕ constant C a) d
  monic_1 d a t u w e = terms_monic d ((a, 0) ∷ []) t u w (one_term C d a e)

  monic_2 : {v w : El} (d p : ℕ) (b a : Car) → T (distinct (d ∷ p ∷ 0 ∷ [])) → T (below (d ∷ p ∷ 0 ∷ []) (suc d)) → T (pole_test d) → mono C d ≡ v → mono C p ≡ w
      → Monic P (v ⊕ constant C b ⊗ w ⊕ constant C a) d
  monic_2 d p b a t u w e f = terms_monic d ((b, p) ∷ (a, 0) ∷ []) t u w (two_terms C d p b a e f)

  monic_3 : {v : El} (d : ℕ) (c b a : Car) → T (distinct (d ∷ 4 ∷ 3 ∷ 0 ∷ [])) → T (below (d ∷ 4 ∷ 3 ∷ 0 ∷ []) (suc d)) → T (pole_test d) → mono C d ≡ v
      → Monic P (v ⊕ constant C c ⊗ y C ⊕ constant C b ⊗ x C ⊕ constant C a) d
  monic_3 d c b a t u w e = terms_monic d ((c, 4) ∷ (b, 3) ∷ (a, 0) ∷ []) t u w (three_terms C d 4 3 c b a e (mono-y C) (mono-x C))

  pub member-monic : (n : ℕ → Car) (κ : Kind) (j : ℕ) → j ≤ 2 → Monic P (member C κ n j) (degree κ j)
  member-monic n k0 = class_by (λ j. Monic P (member C k0 n j) (degree k0 j)) (mono-monic 0 tt (mono-one C)) (mono-monic 4 tt (mono-y C)) (mono-monic 8 tt (mono_yy C))
  member-monic n k11 =
      let second : Monic P (member C k11 n 1) 4 = monic_1 4 (n 1) tt tt tt (mono-y C) in
      class_by (λ j. Monic P (member C k11 n j) (degree k11 j)) (monic_1 3 (n 0) tt tt tt (mono-x C)) second (monic-y 4 (omega arith) second)
  member-monic n k21 =
      let second : Monic P (member C k21 n 1) 4 = monic_2 4 3 (n 1) (n 0) tt tt tt (mono-y C) (mono-x C) in
      class_by (λ j. Monic P (member C k21 n j) (degree k21 j)) (monic_2 6 3 (n 3) (n 2) tt tt tt (mono_xx C) (mono-x C)) second (monic-y 4 (omega arith) second)
  member-monic n k22 =
      let first : Monic P (member C k22 n 0) 3 = monic_1 3 (n 0) tt tt tt (mono-x C) in
      class_by (λ j. Monic P (member C k22 n j) (degree k22 j)) first (monic-y 3 (omega arith) first) (monic_2 8 4 (n 2) (n 1) tt tt tt (mono_yy C) (mono-y C))
  member-monic n k31 =
      class_by (λ j. Monic P (member C k31 n j) (degree k31 j))
      (monic_3 6 (n 2) (n 1) (n 0) tt tt tt (mono_xx C))
      (monic_3 7 (n 5) (n 4) (n 3) tt tt tt (mono_xy C))
      (monic_3 8 (n 8) (n 7) (n 6) tt tt tt (mono_yy C))

  pub member-pole : (n : ℕ → Car) (κ : Kind) (j : ℕ) → j ≤ 2 → HasPole P (member C κ n j) (degree κ j)
  member-pole n κ j l = monic-pole P (member-monic n κ j l)

  module _ (κ : Kind) (n : ℕ → Car) where
    abbrev pub Spanned : El → Type 0
    Spanned = Span P (members C κ n)

    class : (j : ℕ) → j ≤ 2 → degree κ j % 3 ≡ j
    class = degree_class κ

    apart : (i j : ℕ) → i ≤ 2 → j ≤ 2 → ¬ (i ≡ j) → ¬ (degree κ i % 3 ≡ degree κ j % 3)
    apart i j l l' h e = h (sym (class i l) ∙ e ∙ class j l')

    p₀ : HasPole P (member C κ n 0) (degree κ 0)
    p₀ = member-pole n κ 0 (omega arith)

    p₁ : HasPole P (member C κ n 1) (degree κ 1)
    p₁ = member-pole n κ 1 (omega arith)

    p₂ : HasPole P (member C κ n 2) (degree κ 2)
    p₂ = member-pole n κ 2 (omega arith)

    a₀₁ : ¬ (degree κ 0 % 3 ≡ degree κ 1 % 3)
    a₀₁ = apart 0 1 (omega arith) (omega arith) (omega arith)

    a₀₂ : ¬ (degree κ 0 % 3 ≡ degree κ 2 % 3)
    a₀₂ = apart 0 2 (omega arith) (omega arith) (omega arith)

    a₁₂ : ¬ (degree κ 1 % 3 ≡ degree κ 2 % 3)
    a₁₂ = apart 1 2 (omega arith) (omega arith) (omega arith)

    pub spanned_space : IsSpace P Spanned
    spanned_space = span_space P (members C κ n)

    pub spanned-based : Based P Spanned
    spanned-based = triple-based P p₀ p₁ p₂ a₀₁ a₀₂ a₁₂

    pub spanned-each : (j : ℕ) → j ≤ 2 → Spanned (member C κ n j)
    spanned-each j l = go (span_each P (members C κ n))
      where
        go : Every Spanned (members C κ n) → Spanned (member C κ n j)
        go (a, (b, (c, _))) = class_by (λ i. Spanned (member C κ n i)) a b c j l

    pub lead-reached : (m : ℕ) → Lead P Spanned m → Reached κ m
    lead-reached m l = ⊎_elim (from 0 (omega arith)) (⊎_elim (from 1 (omega arith)) (from 2 (omega arith))) (triple-lead P p₀ p₁ p₂ a₀₁ a₀₂ a₁₂ m l)
      where
        from : (j : ℕ) → j ≤ 2 → Reach (degree κ j) m → Reached κ m
        from j h (l, e) = subst (λ (i : ℕ). degree κ i ≤ m) (sym (e ∙ class j h)) l

    pub reached-lead : (m : ℕ) → Reached κ m → Lead P Spanned m
    reached-lead m r = triple_reach P p₀ p₁ p₂ a₀₁ a₀₂ a₁₂ m (go (m % 3) refl)
      where
        to : (j : ℕ) → j ≤ 2 → m % 3 ≡ j → Reach (degree κ j) m
        to j h e = (subst (λ (i : ℕ). degree κ i ≤ m) e r, e ∙ sym (class j h))

        go : (j : ℕ) → m % 3 ≡ j → Reach (degree κ 0) m ⊎ (Reach (degree κ 1) m ⊎ Reach (degree κ 2) m)
        go zero e = inl (to 0 (omega arith) e)
        go (suc zero) e = inr (inl (to 1 (omega arith) e))
        go (suc (suc zero)) e = inr (inr (to 2 (omega arith) e))
        go (suc (suc (suc j))) e = absurd (omega arith)

    -- an ideal that holds the record's polynomials holds the span of its members
    pub spanned_in : {I : El → Type 0} → IsIdeal (Coordinate C) I → Every I (polynomials C κ n) → (h : El) → Spanned h → I h
    spanned_in i ms = span_in P (ideal_space P i) (λ u. i.times (P.mono 3)) (members C κ n) (ideal-members C i κ n ms)

    pub spanned-ideal_of : (h : El) → Spanned h → IdealOf C κ n h
    spanned-ideal_of = spanned_in (generated_ideal (Coordinate C) (polynomials C κ n)) (generated_each (Coordinate C) (polynomials C κ n))
