-- Every reduced ideal has a record, and only one.
--   Fits I κ               the leads of I are the numbers that the kind reaches
--   kind-of                an ideal with a small footprint fits a kind
--   numbers                the numbers of its record: the rests of the leads of the kind's rows
--   record_exists          it is the ideal of a basis
--   RecordOf J             one basis has the reduced ideal of J, its record is no longer than 40 bytes, and there is no other
--   record_of              every based ideal with a nonzero element has one
--   record_suffices        every finite list of elements, not all zero, generates such an ideal: the length of a record suffices
use mathlib.Core.Path.{◌≡◌, refl, sym, ◌∙◌, ap, ap₂, subst}
use mathlib.Core.Bool.{Bool, true, false, not}
use mathlib.Core.List.{List, [], ◌∷◌, map}
use mathlib.Core.Logic.{inl, inr, ⊎_elim}
use Prim.Native.Nat.{ℕ, suc, ◌≤◌}
use native.Mathlib.Omega.{arith}
use native.Mathlib.Decide.{dec_le}
use lib.Dec.{T, eqb, eqb→eq, ltb, ltb→lt, T_not}
use Rattle.algebra.specs.Ring.{Field}
use Rattle.algebra.proofs.Laws as L
use Rattle.algebra.proofs.Solve.{solve, ◌⊞◌, ⊟◌}
use Rattle.ideal.specs.Ideal.{IsIdeal, Generated, Colon, SameIdeal}
use Rattle.ideal.specs.Poles.{IsGap, IsPole, Poles}
use Rattle.ideal.specs.Reduced.{IsReduced}
use Rattle.ideal.proofs.Gaps.{gap_dec}
use Rattle.ideal.proofs.Same.{same_sym, same_trans}
use Rattle.ideal.proofs.Every.{Every, every_map}
use Rattle.ideal.proofs.Degree.{mono-has, pole-at, pole-mul, pole-number}
use Rattle.ideal.proofs.Leads.{Lead, ideal_space, lowering}
use Rattle.ideal.proofs.Span.{three-pole, four_pole}
use Rattle.ideal.proofs.Generated.{generated_ideal, generated_in, generated_each}
use Rattle.ideal.proofs.Reduced.{SmallFootprint, reduced_exists, reduced_footprint, reduced_unique}
use Rattle.ideal.proofs.Finite.{BasedIdeal, generated_lead, generated_based_ideal}
use Rattle.curve.specs.Curve.{Curve, Coordinate}
use Rattle.curve.proofs.Coefficient.{constant-one}
use Rattle.curve.specs.Sequence.{coefficient, pick}
use Rattle.curve.specs.Monomial.{mono, Below}
use Rattle.curve.proofs.Term.{coefficient-gap, coefficient-neg}
use Rattle.curve.proofs.Filtration.{below-coefficient}
use Rattle.curve.proofs.Product.{below_mono}
use Rattle.poles.specs.Poles.{poles}
use Rattle.divisor.specs.Kind.{Kind, k0, k11, k21, k22, k31, size, polynomials, IdealOf, IsBasis}
use Rattle.divisor.proofs.Terms.{terms, absent, distinct, pole_test, pole_test_pole, Within, within-neg, reading, reading_terms}
use Rattle.algebra.proofs.Test.{both, both_left, both_right}
use Rattle.divisor.proofs.Table.{Reached, kind_by, pole_by, remaining-poles, reached-large, absent_reached, Row, row, rows, poles_of, fill, row-value, polynomials-rows}
use Rattle.divisor.proofs.Divide.{Clean, clean-zero, Division, divide}
use Rattle.divisor.proofs.Basis.{made_bare, basis-lead}
use Rattle.divisor.proofs.Unique.{SameRecord, record_unique}

reached-pole : (κ : Kind) (m : ℕ) → Reached κ m → IsPole m
reached-pole κ m r (inl e) = kind_by (λ κ. ¬ Reached κ 1) (omega arith) (omega arith) (omega arith) (omega arith) (omega arith) κ (subst (Reached κ) e r)
reached-pole κ m r (inr (inl e)) = kind_by (λ κ. ¬ Reached κ 2) (omega arith) (omega arith) (omega arith) (omega arith) (omega arith) κ (subst (Reached κ) e r)
reached-pole κ m r (inr (inr e)) = kind_by (λ κ. ¬ Reached κ 5) (omega arith) (omega arith) (omega arith) (omega arith) (omega arith) κ (subst (Reached κ) e r)

-- the row and the pole number of the number i
abbrev in_row : ℕ → ℕ → List (ℕ × ℕ) → ℕ × ℕ → ℕ × ℕ
in_row i d [] e = e
in_row i d ((j, p) ∷ t) e = pick (eqb i j) (d, p) (in_row i d t e)

abbrev spot : ℕ → List Row → ℕ × ℕ
spot i [] = (0, 0)
spot i (r ∷ rs) = in_row i r.lead r.tail (spot i rs)

-- test: each q of qs is above d or in ps
abbrev covers : ℕ → List ℕ → List ℕ → Bool
covers d ps [] = true
covers d ps (q ∷ qs) = both (pick (ltb d q) true (not (absent q ps))) (covers d ps qs)

covers_absent : (d : ℕ) (ps qs : List ℕ) (m : ℕ) → T (covers d ps qs) → T (absent m ps) → m ≤ d → T (absent m qs)
covers_absent d ps [] m t u l = tt
covers_absent d ps (q ∷ qs) m t u l = go (eqb m q) refl (ltb d q) refl (both_left near (covers d ps qs) t) (covers_absent d ps qs m (both_right near (covers d ps qs) t) u l)
  where
    near : Bool
    near = pick (ltb d q) true (not (absent q ps))

    go : (b : Bool) → eqb m q ≡ b → (c : Bool) → ltb d q ≡ c → T (pick c true (not (absent q ps))) → T (absent m qs) → T (both (not b) (absent m qs))
    go true e true f v w = absurd (omega (arith, l, eqb→eq m q (subst T (sym e) tt), ltb→lt d q (subst T (sym f) tt)))
    go true e false f v w = absurd (T_not (absent q ps) v (subst (λ (i : ℕ). T (absent i ps)) (eqb→eq m q (subst T (sym e) tt)) u))
    go false e c f v w = w

module _ (K : Field) (C : Curve K.ring) (nonzero : ¬ (C.a0 ≡ K.ring.zero)) where
  open K.ring use {Car, zero as 𝟘, one as 𝟙, neg as -ₖ◌}
  open Coordinate C use {Car as El, zero as 𝟎, one as 𝟏, add as ◌⊕◌, mul as ◌⊗◌, neg as ⊖◌}

  infixl 60 ◌⊕◌
  infixl 70 ◌⊗◌
  infix 80 ⊖◌ -ₖ◌
  abbrev P : Poles (Coordinate C)
  P = poles K C nonzero

  pub record Fits (I : El → Type 0) (κ : Kind) : Type 0 where
    pub there : (m : ℕ) → Lead P I m → Reached κ m
    pub back : (m : ℕ) → Reached κ m → Lead P I m

  module _ {I : El → Type 0} (s : SmallFootprint P I) where
    fits : (κ : Kind) → (Lead P I 0 → Reached κ 0) → (Lead P I 3 → Reached κ 3) → (Lead P I 4 → Reached κ 4)
        → (Reached κ 0 → Lead P I 0) → (Reached κ 3 → Lead P I 3) → (Reached κ 4 → Lead P I 4) → Fits I κ
    fits κ a b c a' b' c' = record {
      there = λ m l. pole_by (λ m. Lead P I m → Reached κ m) a b c (λ m h _. reached-large κ m h) m (pole-number P l.2) l;
      back = λ m r. pole_by (λ m. Reached κ m → Lead P I m) a' b' c' (λ m h _. s.leads m h) m (reached-pole κ m r) r;
    }

    above : (d : ℕ) → IsPole d → Lead P I 0 → Lead P I d
    above d p (u, mu, pu) = (P.mono d ⊗ u, s.ideal.times (P.mono d) mu, pole-at P (omega arith) (pole-mul P (mono-has P p) pu))

    pub kind-of : (κ : Kind) × Fits I κ
    kind-of = go (s.based 0) (s.based 3) (s.based 4)
      where
        go : Dec (Lead P I 0) → Dec (Lead P I 3) → Dec (Lead P I 4) → (κ : Kind) × Fits I κ
        go (yes a) b c = (k0, fits k0 (λ _. omega arith) (λ _. omega arith) (λ _. omega arith) (λ _. a) (λ _. above 3 (three-pole P) a) (λ _. above 4 (four_pole P) a))
        go (no a) (yes b) (yes c) = (k11, fits k11 (λ l. absurd (a l)) (λ _. omega arith) (λ _. omega arith) (λ r. absurd (omega arith)) (λ _. b) (λ _. c))
        go (no a) (yes b) (no c) = (k22, fits k22 (λ l. absurd (a l)) (λ _. omega arith) (λ l. absurd (c l)) (λ r. absurd (omega arith)) (λ _. b) (λ r. absurd (omega arith)))
        go (no a) (no b) (yes c) = (k21, fits k21 (λ l. absurd (a l)) (λ l. absurd (b l)) (λ _. omega arith) (λ r. absurd (omega arith)) (λ r. absurd (omega arith)) (λ _. c))
        go (no a) (no b) (no c) = (k31, fits k31 (λ l. absurd (a l)) (λ l. absurd (b l)) (λ l. absurd (c l)) (λ r. absurd (omega arith)) (λ r. absurd (omega arith)) (λ r. absurd (omega arith)))

    -- the rest of mono d after division by I, at each pole number d
    divided : (d : ℕ) → (r : El) × (IsPole d → Clean K C nonzero I r × Below C (suc d) r × I (mono C d ⊕ ⊖ r))
    divided d = go (gap_dec d)
      where
        from : Division K C nonzero I (suc d) (mono C d) → (r : El) × (IsPole d → Clean K C nonzero I r × Below C (suc d) r × I (mono C d ⊕ ⊖ r))
        from v = (v.rest, λ _. (v.clean, v.low, subst I (sym (lone (mono C d) v.rest v.part v.sum)) v.within))
          where
            again : (r s : El) → r ⊕ s ⊕ ⊖ r ≡ s
            again = solve (Coordinate C) 2 (λ r s. r ⊞ s ⊞ ⊟ r) (λ r s. s) tt

            lone : (g r s : El) → g ≡ r ⊕ s → g ⊕ ⊖ r ≡ s
            lone g r s e = ap (λ t. t ⊕ ⊖ r) e ∙ again r s

        go : Dec (IsGap d) → (r : El) × (IsPole d → Clean K C nonzero I r × Below C (suc d) r × I (mono C d ⊕ ⊖ r))
        go (yes g) = (𝟎, λ p. absurd (p g))
        go (no p) = from (divide K C nonzero I (ideal_space P s.ideal) s.based (suc d) (mono C d) (below_mono C d p))

    -- the number i of the record: the rest of its row's lead, at its pole number, with the sign turned
    abbrev numbers : Kind → ℕ → Car
    numbers κ i = -ₖ coefficient C (spot i (rows κ)).1 (divided (spot i (rows κ)).0).0

    -- the numbers n of the terms t take r away
    abbrev Solves : (ℕ → Car) → El → List (ℕ × ℕ) → Type 0
    Solves n r [] = Unit
    Solves n r ((i, p) ∷ t) = (n i ≡ -ₖ coefficient C p r) × Solves n r t

    solves_fill : (n : ℕ → Car) (r : El) (t : List (ℕ × ℕ)) → Solves n r t → fill C n t ≡ reading C (poles_of t) (⊖ r)
    solves_fill n r [] _ = refl
    solves_fill n r ((i, p) ∷ t) (e, es) = ap₂ (λ a ts. (a, p) ∷ ts) (e ∙ sym (coefficient-neg C p r)) (solves_fill n r t es)

    module _ (κ : Kind) (fit : Fits I κ) where
      rest-within : (d : ℕ) (ps : List ℕ) → IsPole d → T (covers d ps (remaining-poles κ)) → Within C ps (divided d).0
      rest-within d ps p t m u = go (gap_dec m) (dec_le m d)
        where
          go : Dec (IsGap m) → Dec (m ≤ d) → coefficient C m (divided d).0 ≡ 𝟘
          go (yes g) b = coefficient-gap C m g (divided d).0
          go (no q) (yes l) = ((divided d).1 p).0 m (fit.back m (absent_reached κ m q (covers_absent d ps (remaining-poles κ) m t u l)))
          go (no q) (no l) = below-coefficient C ((divided d).1 p).1 m (omega arith)

      row_solved : (n : ℕ → Car) (d : ℕ) (t : List (ℕ × ℕ)) → T (pole_test d) → T (distinct (poles_of t)) → T (covers d (poles_of t) (remaining-poles κ))
          → Solves n (divided d).0 t → I (row-value C n (row d t))
      row_solved n d t a b c v = subst I (sym value) ((divided d).1 p).2
        where
          p : IsPole d
          p = pole_test_pole d a

          r : El
          r = (divided d).0

          value : row-value C n (row d t) ≡ mono C d ⊕ ⊖ r
          value =
              ap₂ ◌⊕◌ (ap (λ u. u ⊗ mono C d) (constant-one C) ∙ L.one-mul (Coordinate C) (mono C d))
              (ap (terms C) (solves_fill n r t v) ∙ reading_terms C (poles_of t) (⊖ r) b (within-neg C (poles_of t) r (rest-within d (poles_of t) p c)))

    rows_solved : (κ : Kind) → Fits I κ → Every I (map (row-value C (numbers κ)) (rows κ))
    rows_solved k0 f = (row_solved k0 f (numbers k0) 0 [] tt tt tt tt, tt)
    rows_solved k11 f = (
      row_solved k11 f (numbers k11) 3 ((0, 0) ∷ []) tt tt tt (refl, tt),
      (row_solved k11 f (numbers k11) 4 ((1, 0) ∷ []) tt tt tt (refl, tt), tt),
    )
    rows_solved k21 f = (
      row_solved k21 f (numbers k21) 4 ((1, 3) ∷ (0, 0) ∷ []) tt tt tt (refl, (refl, tt)),
      (row_solved k21 f (numbers k21) 6 ((3, 3) ∷ (2, 0) ∷ []) tt tt tt (refl, (refl, tt)), tt),
    )
    rows_solved k22 f = (
      row_solved k22 f (numbers k22) 3 ((0, 0) ∷ []) tt tt tt (refl, tt),
      (row_solved k22 f (numbers k22) 8 ((2, 4) ∷ (1, 0) ∷ []) tt tt tt (refl, (refl, tt)), tt),
    )
    rows_solved k31 f = (
      row_solved k31 f (numbers k31) 6 ((2, 4) ∷ (1, 3) ∷ (0, 0) ∷ []) tt tt tt (refl, (refl, (refl, tt))),
      (
        row_solved k31 f (numbers k31) 7 ((5, 4) ∷ (4, 3) ∷ (3, 0) ∷ []) tt tt tt (refl, (refl, (refl, tt))),
        (row_solved k31 f (numbers k31) 8 ((8, 4) ∷ (7, 3) ∷ (6, 0) ∷ []) tt tt tt (refl, (refl, (refl, tt))), tt),
      ),
    )

    pub record_exists : (κ : Kind) × (n : ℕ → Car) × IsBasis C κ n × SameIdeal (Coordinate C) I (IdealOf C κ n)
    record_exists = go kind-of
      where
        go : (κ : Kind) × Fits I κ → (κ : Kind) × (n : ℕ → Car) × IsBasis C κ n × SameIdeal (Coordinate C) I (IdealOf C κ n)
        go (κ, fit) = (κ, numbers κ, basis, λ h. (lowering P (ideal_space P ideal) (ideal_space P s.ideal) inside leads h, inside h))
          where
            ideal : IsIdeal (Coordinate C) (IdealOf C κ (numbers κ))
            ideal = generated_ideal (Coordinate C) (polynomials C κ (numbers κ))

            inside : (h : El) → IdealOf C κ (numbers κ) h → I h
            inside = generated_in (Coordinate C) s.ideal (polynomials C κ (numbers κ)) (subst (λ gs. Every I gs) (sym (polynomials-rows C (numbers κ) κ)) (rows_solved κ fit))

            basis : IsBasis C κ (numbers κ)
            basis h i w = clean-zero K C nonzero I h (inside h i) (λ m l. made_bare C κ h w m (fit.there m l))

            leads : (m : ℕ) → Lead P I m → Lead P (IdealOf C κ (numbers κ)) m
            leads m l = basis-lead K C nonzero κ (numbers κ) basis m (fit.there m l)

  -- Document 01: "The record of a reduced ideal is the accepted record … whose ideal it is; there is only one." It has 4 to 40 bytes.
  pub record RecordOf (J : El → Type 0) : Type 0 where
    pub kind : Kind
    pub numbers : ℕ → Car
    pub basis : IsBasis C kind numbers
    pub reduced : IsReduced P J (IdealOf C kind numbers)
    pub only : (κ : Kind) (n : ℕ → Car) → IsBasis C κ n → IsReduced P J (IdealOf C κ n) → SameRecord kind numbers κ n
    pub shortest : 4 ≤ size kind
    pub longest : size kind ≤ 40

  pub record_of : {J : El → Type 0} → BasedIdeal P J → RecordOf J
  record_of {J} j = go (reduced_exists P j.ideal j.based j.lead)
    where
      at : {A : El → Type 0} → IsReduced P J A → (κ : Kind) × (n : ℕ → Car) × IsBasis C κ n × SameIdeal (Coordinate C) A (IdealOf C κ n) → RecordOf J
      at r (κ, n, b, e) = record {
        kind = κ;
        numbers = n;
        basis = b;
        reduced = own;
        only = λ κ' n' b' r'. record_unique K C nonzero κ κ' n n' b b' (reduced_unique P j.ideal own r');
        shortest = kind_by (λ κ. 4 ≤ size κ) (omega arith) (omega arith) (omega arith) (omega arith) (omega arith) κ;
        longest = kind_by (λ κ. size κ ≤ 40) (omega arith) (omega arith) (omega arith) (omega arith) (omega arith) κ;
      }
        where
          own : IsReduced P J (IdealOf C κ n)
          own = record { f = r.f; least = r.least; f' = r.f'; least' = r.least'; same = same_trans (Coordinate C) (same_sym (Coordinate C) e) r.same }

      go : (f f' : El) × IsReduced P J (Colon (Coordinate C) f' (Colon (Coordinate C) f J)) → RecordOf J
      go (f, f', r) = at r (record_exists (reduced_footprint P j.ideal j.based r))

  pub record_suffices : (gs : List El) → ¬ Every (λ g. g ≡ 𝟎) gs → RecordOf (Generated (Coordinate C) gs)
  record_suffices gs h = ⊎_elim (λ none. absurd (h (every_map none gs (generated_each (Coordinate C) gs)))) (λ (n, l). record_of (generated_based_ideal P gs l)) (generated_lead P gs)
