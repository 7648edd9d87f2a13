-- The product of the ideals of two bases of kind 31, and the square of one, are of type 61 if their columns are independent.
-- For the product I·I' the columns are those of f, g and h modulo I', for the square I·I those of q0, q1 and q2 modulo I: f·q j = q0·(f, g, h) j, so the
-- mixtures of f, g, h in I·I and those of q0, q1, q2 in A·I, A the ideal of q0, q1, q2, are the same but for the factors q0 and f.
--   comaximal              what lies in A and in I' lies in A·I', if the columns modulo I' of the three elements that generate A are independent
--   sum_transfer, double_transfer  I·I' and I·I are told by f, g, h and by q0, q1, q2
--   sum_type61, double_type61      they are of type 61, with these first two polynomials
use mathlib.Core.Path.{◌≡◌, refl, sym, ◌∙◌, ap, subst}
use mathlib.Core.List.{List, [], ◌∷◌}
use Prim.Native.Nat.{ℕ, zero, suc, ◌≤◌}
use native.Mathlib.Omega.{arith}
use Rattle.algebra.specs.Ring.{CommRing, Field, ops}
use Rattle.algebra.proofs.Norm.{nil, unit}
use Rattle.algebra.proofs.Solve.{solve, solve_from, given, ◌⊞◌, ◌⊠◌, ⊟◌}
use Rattle.ideal.specs.Ideal.{IsIdeal, Generated, Product}
use Rattle.ideal.specs.Poles.{Poles}
use Rattle.ideal.proofs.Degree.{cancel, pole-nonzero}
use Rattle.ideal.proofs.Product.{product_of, product_in, product-ideal, taken_ideal}
use Rattle.ideal.proofs.Generated.{generated_ideal, generated_each, generated_in}
use Rattle.ideal.proofs.Invertible.{Scaled, scaled_ideal}
use Rattle.ideal.proofs.Finite.{product-based}
use Rattle.curve.specs.Curve.{Curve, Coordinate, x, y}
use Rattle.curve.proofs.Coefficient.{constant-zero, constant-one}
use Rattle.poles.specs.Poles.{poles}
use Rattle.divisor.specs.Kind.{k31, polynomials, IdealOf, IsBasis}
use Rattle.divisor.proofs.Members.{member, member-pole}
use Rattle.divisor.proofs.Basis.{basis-based}
use Rattle.type61.proofs.Form.{less, cubic, quartic}
use Rattle.type61.proofs.Shape.{Type61}
use Rattle.invertible.proofs.Value.{at}
use Rattle.invertible.proofs.Adjugate.{q, adjugate}
use Rattle.columns.specs.Pivots.{determinant}
use Rattle.columns.proofs.Column.{mix, Solves, plane, mixed, IsColumn, column_cong, column_mix, column-zero, cramer, cramer_solves, independent}
use Rattle.columns.proofs.Formulas.{member_in}
use Rattle.columns.proofs.Transfer.{Transfer, transfer_type61}

module _ (K : Field) (C : Curve K.ring) (nonzero : ¬ (C.a0 ≡ K.ring.zero)) where
  open K.ring use {Car, zero as 𝟘, one as 𝟙}
  open Coordinate C use {Car as El, zero as 𝟎, one as 𝟏, add as ◌⊕◌, mul as ◌⊗◌, neg as ⊖◌}

  infixl 60 ◌⊕◌
  infixl 70 ◌⊗◌
  infix 80 ⊖◌
  abbrev k : CommRing
  k = K.ring

  abbrev R : CommRing
  R = Coordinate C

  abbrev P : Poles R
  P = poles K C nonzero

  three : (a b c u v w : El) → Generated R (u ∷ v ∷ w ∷ []) (a ⊗ u ⊕ b ⊗ v ⊕ c ⊗ w)
  three a b c u v w = (a, _, (b, _, (c, 𝟎, refl, refl), refl), sorted a b c u v w)
    where
      sorted : (a b c u v w : El) → a ⊗ u ⊕ b ⊗ v ⊕ c ⊗ w ≡ a ⊗ u ⊕ (b ⊗ v ⊕ (c ⊗ w ⊕ 𝟎))
      sorted = solve R 6 (λ a b c u v w. a ⊠ u ⊞ b ⊠ v ⊞ c ⊠ w) (λ a b c u v w. a ⊠ u ⊞ (b ⊠ v ⊞ (c ⊠ w ⊞ nil))) tt

  -- the column of 1, which are also the numbers that choose the first of three columns
  unit-column : ℕ → Car
  unit-column zero = 𝟙
  unit-column (suc i) = 𝟘

  unit_plane : plane C unit-column ≡ 𝟏
  unfolding unit-column
  unit_plane = (λ t. constant-one C t ⊕ constant-zero C t ⊗ x C ⊕ constant-zero C t ⊗ y C) ∙ alone (x C) (y C)
    where
      alone : (x y : El) → 𝟏 ⊕ 𝟎 ⊗ x ⊕ 𝟎 ⊗ y ≡ 𝟏
      alone = solve R 2 (λ x y. unit ⊞ nil ⊠ x ⊞ nil ⊠ y) (λ x y. unit) tt

  module _ (m : ℕ → Car) {w0 w1 w2 : El} {c0 c1 c2 : ℕ → Car} (i0 : IsColumn C m w0 c0) (i1 : IsColumn C m w1 c1) (i2 : IsColumn C m w2 c2)
      (full : ¬ (determinant (ops k) c0 c1 c2 ≡ 𝟘)) where
    abbrev I : El → Type 0
    I = IdealOf C k31 m

    abbrev A : El → Type 0
    A = Generated R (w0 ∷ w1 ∷ w2 ∷ [])

    -- z = a·z + (−z)·(a − 1) for the mixture a with the column of 1
    pub comaximal : (z : El) → A z → I z → Product R A I z
    comaximal z mz mz' =
        subst (Product R A I) (whole z a)
        ((product-ideal R ideal).sum (product_of R (three _ _ _ w0 w1 w2) mz') (product_of R (ideal.times (⊖ 𝟏) mz) (subst (λ p. I (a ⊕ ⊖ p)) unit_plane column.member)))
      where
        ideal : IsIdeal R A
        ideal = generated_ideal R (w0 ∷ w1 ∷ w2 ∷ [])

        s : ℕ → Car
        s = cramer K c0 c1 c2 full unit-column

        a : El
        a = mixed C s w0 w1 w2

        column : IsColumn C m a unit-column
        column = column_cong C m (λ i l. sym (cramer_solves K c0 c1 c2 full unit-column i l)) (column_mix C m s i0 i1 i2)

        whole : (z a : El) → a ⊗ z ⊕ ⊖ 𝟏 ⊗ z ⊗ (a ⊕ ⊖ 𝟏) ≡ z
        whole = solve R 2 (λ z a. a ⊠ z ⊞ ⊟ unit ⊠ z ⊠ (a ⊞ ⊟ unit)) (λ z a. z) tt

    first-nonzero : IsBasis C k31 m → ¬ (w0 ≡ 𝟎)
    unfolding unit-column
    first-nonzero basis e = K.nontrivial (independent K c0 c1 c2 full unit-column none 0 (omega arith))
      where
        only : (a b c : Car) → mix (ops k) unit-column a b c ≡ a
        only = solve k 3 (λ a b c. unit ⊠ a ⊞ nil ⊠ b ⊞ nil ⊠ c) (λ a b c. a) tt

        none : (i : ℕ) → i ≤ 2 → mix (ops k) unit-column (c0 i) (c1 i) (c2 i) ≡ 𝟘
        none i l = only (c0 i) (c1 i) (c2 i) ∙ column-zero C m basis i0 (subst I (sym e) (generated_ideal R (polynomials C k31 m)).nil) i l

  ideal_of : (n : ℕ → Car) → IsIdeal R (IdealOf C k31 n)
  ideal_of n = generated_ideal R (polynomials C k31 n)

  product-within : {X Y : El → Type 0} → IsIdeal R X → (z : El) → Product R X Y z → X z
  product-within {X} ideal z = product_in R ideal (λ a b ma mb. subst X (R.mul_comm b a) (ideal.times b ma))

  module _ (n m : ℕ → Car) (basis : IsBasis C k31 n) (basis' : IsBasis C k31 m) {c0 c1 c2 : ℕ → Car} (i0 : IsColumn C m (member C k31 n 0) c0)
      (i1 : IsColumn C m (member C k31 n 1) c1) (i2 : IsColumn C m (member C k31 n 2) c2) (full : ¬ (determinant (ops k) c0 c1 c2 ≡ 𝟘)) where
    sum_transfer : Transfer K C nonzero n m (Product R (IdealOf C k31 n) (IdealOf C k31 m)) (member C k31 n 0) (member C k31 n 1) (member C k31 n 2)
    sum_transfer = record {
      based = product-based P (basis-based K C nonzero k31 n basis) (basis-based K C nonzero k31 m basis');
      within = product-within (ideal_of n);
      there = λ a b c. product_in R (ideal_of m) (λ a b ma mb. (ideal_of m).times a mb);
      back = λ a b c z. comaximal m i0 i1 i2 full _ (three a b c _ _ _) z;
    }

    pub sum_type61 : (d e s t : ℕ → Car) → IsColumn C m (x C ⊗ member C k31 n 0) d → IsColumn C m (x C ⊗ member C k31 n 1) e
        → Solves k c0 c1 c2 d s → Solves k c0 c1 c2 e t
        → Type61 P (Product R (IdealOf C k31 n) (IdealOf C k31 m)) (cubic C (less (ops k) n 0 s)) (quartic C (less (ops k) n 3 t))
    sum_type61 = transfer_type61 K C nonzero n m basis basis' sum_transfer i0 i1 i2 full

  -- X·e = e'·Y gives (X·W)·e = e'·Z, if Z holds Y·W
  carried : (e e' : El) {X Y Z W : El → Type 0} → IsIdeal R Z → ((u : El) → X u → Scaled R e' Y (u ⊗ e)) → ((u w : El) → Y u → W w → Z (u ⊗ w)) → (z : El)
      → Product R X W z → Scaled R e' Z (z ⊗ e)
  carried e e' {X} {Y} {Z} {W} ideal across within z = product_in R (taken_ideal R e (scaled_ideal R e' ideal)) (λ u w mu mw. go u w (across u mu) mw)
    where
      go : (u w : El) → Scaled R e' Y (u ⊗ e) → W w → Scaled R e' Z (u ⊗ w ⊗ e)
      go u w (t, mt, p) mw = (t ⊗ w, within t w mt mw, turn u w e ∙ ap (λ v. v ⊗ w) p ∙ R.mul_assoc e' t w)
        where
          turn : (u w e : El) → u ⊗ w ⊗ e ≡ u ⊗ e ⊗ w
          turn = solve R 3 (λ u w e. u ⊠ w ⊠ e) (λ u w e. u ⊠ e ⊠ w) tt

  module _ (n : ℕ → Car) (basis : IsBasis C k31 n) {c0 c1 c2 : ℕ → Car} (i0 : IsColumn C n (at C n (q 0)) c0)
      (i1 : IsColumn C n (at C n (q 1)) c1) (i2 : IsColumn C n (at C n (q 2)) c2) (full : ¬ (determinant (ops k) c0 c1 c2 ≡ 𝟘)) where
    abbrev f : El
    f = member C k31 n 0

    abbrev g : El
    g = member C k31 n 1

    abbrev h : El
    h = member C k31 n 2

    abbrev q0 : El
    q0 = at C n (q 0)

    abbrev q1 : El
    q1 = at C n (q 1)

    abbrev q2 : El
    q2 = at C n (q 2)

    abbrev qs : List El
    qs = q0 ∷ q1 ∷ q2 ∷ []

    abbrev J : El → Type 0
    J = IdealOf C k31 n

    f-nonzero : ¬ (f ≡ 𝟎)
    f-nonzero = pole-nonzero P (member-pole K C nonzero n k31 0 (omega arith))

    q0_nonzero : ¬ (q0 ≡ 𝟎)
    q0_nonzero = first-nonzero n i0 i1 i2 full basis

    each : (j : ℕ) → j ≤ 2 → member C k31 n j ⊗ q0 ≡ f ⊗ at C n (q j)
    each j l = R.mul_comm _ _ ∙ sym (adjugate C n basis j l)

    -- q0·I = f·A, both ways
    to_A : (u : El) → J u → Scaled R f (Generated R qs) (u ⊗ q0)
    to_A = go (generated_each R qs)
      where
        go : Generated R qs q0 × (Generated R qs q1 × (Generated R qs q2 × Unit {0})) → (u : El) → J u → Scaled R f (Generated R qs) (u ⊗ q0)
        go (m0, (m1, (m2, _))) =
            generated_in R (taken_ideal R q0 (scaled_ideal R f (generated_ideal R qs))) (polynomials C k31 n)
            ((q0, m0, each 0 (omega arith)), ((q1, m1, each 1 (omega arith)), ((q2, m2, each 2 (omega arith)), tt)))

    from-A : (u : El) → Generated R qs u → Scaled R q0 J (u ⊗ f)
    from-A =
        generated_in R (taken_ideal R f (scaled_ideal R q0 (ideal_of n))) qs
        (at_j 0 (omega arith), (at_j 1 (omega arith), (at_j 2 (omega arith), tt)))
      where
        at_j : (j : ℕ) → j ≤ 2 → Scaled R q0 J (at C n (q j) ⊗ f)
        at_j j l = (member C k31 n j, member_in C n j l, R.mul_comm _ _ ∙ adjugate C n basis j l)

    module _ (a b c : El) where
      abbrev z : El
      z = a ⊗ f ⊕ b ⊗ g ⊕ c ⊗ h

      abbrev w : El
      w = a ⊗ q0 ⊕ b ⊗ q1 ⊕ c ⊗ q2

      same : z ⊗ q0 ≡ f ⊗ w
      same = rule a b c f g h q0 q1 q2 (adjugate C n basis 1 (omega arith), (adjugate C n basis 2 (omega arith), tt))
        where
          rule : (a b c f g h p q r : El) → (f ⊗ q ≡ p ⊗ g) × ((f ⊗ r ≡ p ⊗ h) × Unit {0}) → (a ⊗ f ⊕ b ⊗ g ⊕ c ⊗ h) ⊗ p ≡ f ⊗ (a ⊗ p ⊕ b ⊗ q ⊕ c ⊗ r)
          rule =
              solve_from R 9 (λ a b c f g h p q r. given (⊟ b) (f ⊠ q) (p ⊠ g) ∷ given (⊟ c) (f ⊠ r) (p ⊠ h) ∷ [])
              (λ a b c f g h p q r. (a ⊠ f ⊞ b ⊠ g ⊞ c ⊠ h) ⊠ p) (λ a b c f g h p q r. f ⊠ (a ⊠ p ⊞ b ⊠ q ⊞ c ⊠ r)) tt

      square-there : Product R J J z → J w
      square-there m = go (carried q0 f (ideal_of n) to_A (λ u v mu mv. (ideal_of n).times u mv) z m)
        where
          go : Scaled R f J (z ⊗ q0) → J w
          go (t, mt, p) = subst J (cancel P f-nonzero (sym p ∙ same)) mt

      square-back : J w → Product R J J z
      square-back m = go (carried f q0 (product-ideal R (ideal_of n)) from-A (λ u v mu mv. product_of R mu mv) w (comaximal n i0 i1 i2 full w (three a b c q0 q1 q2) m))
        where
          go : Scaled R q0 (Product R J J) (w ⊗ f) → Product R J J z
          go (t, mt, p) = subst (Product R J J) (cancel P q0_nonzero (sym p ∙ R.mul_comm w f ∙ sym same ∙ R.mul_comm z q0)) mt

    double_transfer : Transfer K C nonzero n n (Product R J J) q0 q1 q2
    double_transfer = record {
      based = product-based P (basis-based K C nonzero k31 n basis) (basis-based K C nonzero k31 n basis);
      within = product-within (ideal_of n);
      there = square-there;
      back = square-back;
    }

    pub double_type61 : (d e s t : ℕ → Car) → IsColumn C n (x C ⊗ at C n (q 0)) d → IsColumn C n (x C ⊗ at C n (q 1)) e
        → Solves k c0 c1 c2 d s → Solves k c0 c1 c2 e t
        → Type61 P (Product R (IdealOf C k31 n) (IdealOf C k31 n)) (cubic C (less (ops k) n 0 s)) (quartic C (less (ops k) n 3 t))
    double_type61 = transfer_type61 K C nonzero n n basis basis double_transfer i0 i1 i2 full
