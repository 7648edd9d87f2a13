-- The divisor that star returns is the star of the triple's span.
--   functional_asked, posed-of         what star asks of functional and of by_kind
--   starred_0                          the zero class is the star, where d2 is d + 8
--   starred_by                         else the divisor of by_kind is
use mathlib.Core.Path.{◌≡◌, refl, sym, ◌∙◌, ap, subst}
use mathlib.Core.List.{List, [], ◌∷◌}
use mathlib.Core.Logic.{⊎_elim}
use Prim.Native.Nat.{ℕ, zero, suc, ◌+◌, ◌%◌, ◌<◌}
use native.Mathlib.Omega.{arith}
use lib.ListN.{replicate}
use Rattle.algebra.specs.Ring.{Field}
use Rattle.field.specs.Residue.{Z, el}
use Rattle.field.proofs.Element.{el-zero}
use Rattle.prime_field.specs.Field.{F}
use Rattle.field.proofs.Invert.{prime-large}
use Rattle.ideal.specs.Ideal.{Colon}
use Rattle.ideal.specs.Poles.{IsPole}
use Rattle.ideal.proofs.Every.{Every}
use Rattle.ideal.proofs.Gaps.{pole_intro, pole-large}
use Rattle.curve.specs.Curve.{Curve, Coordinate}
use Rattle.curve.specs.Sequence.{coefficient}
use Rattle.curve.specs.Monomial.{Below}
use Rattle.curve.proofs.Filtration.{coefficient-below}
use Rattle.poles.proofs.Monic.{monic-coefficient}
use Rattle.divisor.specs.Kind.{Kind, k0, k11, k21, k22, k31, polynomials}
use Rattle.divisor.proofs.Monomials.{mono-y, mono_xx, mono_xy, mono_yy}
use Rattle.divisor.proofs.Star.{Matched, star_recognised}
use Rattle.vector.specs.Vector.{at, res, row, element, width}
use Rattle.multiplication.specs.Contract.{YMultiples}
use Rattle.functional.proofs.Member.{all-members}
use Rattle.functional.proofs.Degrees.{degrees-lowest, none_1, none_2, none_5, Steps, steps_31, steps_21, steps_22, steps_11, steps_0}
use Rattle.functional.proofs.Candidate.{Scene, Solves, meets_one, meets_x, meets_y, colon_x, colon_one, colon_x-one, colon_y-one, colon_all}
use Rattle.triple.specs.Setting.{poles_of}
use Rattle.triple.specs.Triple.{Spanned}
use Rattle.ground.specs.declared.Ground.{Ground}
use Rattle.basis.specs.Divisor.{divisor_0, numbers_of, residues}
use Rattle.basis.specs.declared.Divisor.{Divisor}
use Rattle.lambda.specs.declared.Pose.{Pose}
use Rattle.lambda.specs.Lambda.{FunctionalAsked, FunctionalOf}
use Rattle.star.specs.declared.Terms.{Terms}
use Rattle.star.specs.Contract.{StarAsked, Starred, LeastOf}
use Rattle.star.specs.Parts.{Posed, Solved, divisor_11, divisor_21, divisor_22, divisor_31}
use Rattle.star.specs.Parts.{ByKind, is_31, is_21, is_22, is_11}
use Rattle.star.proofs.Asked.{S, in_span, member-monic, member-pole, degrees-of, steps_of, least-element, least-small, near_1, near_2, least-low}

below_each : {p : ℕ} (ns : List ℕ) → Every (λ n. n < p) ns → 0 < p → (i : ℕ) → at ns i < p
below_each [] _ h i = h
below_each (n ∷ ns) (l, ls) h zero = l
below_each (n ∷ ns) (l, ls) h (suc i) = below_each ns ls h i

-- what the parts of star share: the modulus, the inverse of −a0 and the three degrees
abbrev pose_of : Ground → List ℕ → ℕ → Pose
pose_of g d j = record { p = g.p; unit = g.unit; d = at d j; d1 = at d ((j + 1) % 3); d2 = at d ((j + 2) % 3) }

module _ {g : Ground} {t : List (List ℕ)} {d : List ℕ} (A : StarAsked g t d) {j : ℕ} (L : LeastOf d j) where
  abbrev p : ℕ
  p = g.p

  abbrev C : Curve (Z p)
  C = (S A).curve

  open Coordinate C use {Car as El, one as 𝟏}

  -- the three degrees
  abbrev d₀ : ℕ
  d₀ = at d j

  abbrev d₁ : ℕ
  d₁ = at d ((j + 1) % 3)

  abbrev d₂ : ℕ
  d₂ = at d ((j + 2) % 3)

  abbrev q : Pose
  q = pose_of g d j

  pub functional_asked : ¬ (d₂ ≡ d₀ + 8) → {ys : List (List ℕ)} → YMultiples p g.cube (row t j) (d₀ + 1) ys → FunctionalAsked q ys
  functional_asked some Y =
      record {
        large = prime-large p (S A).prime;
        unit_below = A.grounded.unit_is.below;
        rows = Y.rows;
        low = least-low A L some;
        high = least-small A L;
      }

  abbrev K : Field
  K = F p (S A).prime

  -- the i-th member
  abbrev member : ℕ → El
  member i = element p C (row t i)

  abbrev InStar : El → Type 0
  InStar h = Colon (Coordinate C) (member j) (Spanned (S A) t) h

  positive : 0 < p
  positive = omega (arith, prime-large p (S A).prime)

  -- numbers past the kind's count
  zeros : (n : ℕ) → Every (λ m. m < p) (replicate n 0)
  zeros zero = tt
  zeros (suc n) = (positive, zeros n)

  -- a divisor of the kind whose polynomials lie in the colon ideal
  starred : (κ : Kind) (r : Divisor) → r.kind ≡ κ → Every (λ n. n < p) (numbers_of r) → Matched K C (S A).nonzero (Spanned (S A) t) κ d₀
      → Every InStar (polynomials C κ (residues p r)) → Starred p (S A) t r
  starred κ r e below m es =
      let (b, i) = star_recognised K C (S A).nonzero κ (residues p r) (least-element A L) (member-pole A j L.inside) m es in
      record {
        kind = κ;
        based = record { shaped = record { kind = e; below = below_each (numbers_of r) below positive }; basis = b };
        star = i;
      }

  pub starred_0 : d₂ ≡ d₀ + 8 → {r : Divisor} → r ≡ divisor_0 → Starred p (S A) t r
  starred_0 e is = subst (Starred p (S A) t) (sym is) (starred k0 divisor_0 refl (zeros 9) tt (all, tt))
    where
      all : InStar 𝟏
      all =
          all-members (poles_of (S A)) (member-pole A j L.inside) A.ideal (in_span A j L.inside)
          (degrees-lowest (poles_of (S A)) (Spanned (S A) t) (degrees-of A L))
          (none_1 (poles_of (S A)) (Spanned (S A) t) (degrees-of A L) (go (steps_of A L)))
          (none_2 (poles_of (S A)) (Spanned (S A) t) (degrees-of A L) (omega arith))
          (none_5 (poles_of (S A)) (Spanned (S A) t) (degrees-of A L) (omega arith)) 𝟏
        where
          go : Steps d₀ d₁ d₂ → d₁ ≡ d₀ + 4
          go (steps_31 a b) = absurd (omega arith)
          go (steps_21 a b) = a
          go (steps_22 a b) = absurd (omega arith)
          go (steps_11 a b) = a
          go (steps_0 a b) = a

  module _ (some : ¬ (d₂ ≡ d₀ + 8)) {lam : List ℕ} {ys us ws : List (List ℕ)} (W : FunctionalOf q ys lam)
      (Y : YMultiples p g.cube (row t j) (d₀ + 1) ys)
      (U : YMultiples p g.cube (row t ((j + 1) % 3)) (d₁ + 1) us)
      (X : YMultiples p g.cube (row t ((j + 2) % 3)) (d₂ + 1) ws) where
    pub posed-of : Posed q lam us ws
    posed-of =
        record {
          u_posed = record {
            unit_below = A.grounded.unit_is.below;
            lambda = W.lambda;
            high = least-small A L;
            rows = U.rows;
            near = ⊎_elim (λ e. omega arith) (λ e. omega arith) (near_1 A L);
          };
          w_posed = record {
            lambda = W.lambda;
            high = least-small A L;
            rows = X.rows;
            near = ⊎_elim (λ e. omega arith) (λ e. omega arith) (near_2 A L some);
            class = ⊎_elim (λ e. omega arith) (λ e. omega arith) (near_2 A L some);
          };
        }

    monic : (i : ℕ) → i < 3 → coefficient C (at d i) (member i) ≡ (Z p).one
    monic i h = (monic-coefficient K C (S A).nonzero (member-monic A i h)).1

    below : (i : ℕ) → i < 3 → Below C (suc (at d i)) (member i)
    below i h = coefficient-below C (suc (at d i)) (member i) (monic-coefficient K C (S A).nonzero (member-monic A i h)).2

    scene : Scene K C (S A).nonzero width (Spanned (S A) t) (member j) (member ((j + 1) % 3)) (member ((j + 2) % 3)) d₀ d₁ d₂ (res p lam)
    scene =
        record {
          ideal = A.ideal;
          f_in = in_span A j L.inside;
          u_in = in_span A ((j + 1) % 3) (omega arith);
          w_in = in_span A ((j + 2) % 3) (omega arith);
          f_pole = member-pole A j L.inside;
          u_below = below ((j + 1) % 3) (omega arith);
          u_monic = monic ((j + 1) % 3) (omega arith);
          w_below = below ((j + 2) % 3) (omega arith);
          w_monic = monic ((j + 2) % 3) (omega arith);
          degrees = degrees-of A L;
          functional = W.is C (member j) A.grounded.unit_is (Y.value C A.grounded.ready.cube) (monic j L.inside);
          room = omega (arith, least-small A L);
          near_1 = near_1 A L;
          near_2 = near_2 A L some;
        }

    zero_of : {n : ℕ} → n ≡ 0 → el p n ≡ (Z p).zero
    zero_of e = ap (el p) e ∙ el-zero p

    solves : {n : ℕ} {r : Terms} → Solved q lam us ws n r → Solves K C (S A).nonzero width scene n (el p r.a4) (el p r.a3) (el p r.a0)
    solves s =
        let us-are = U.value C A.grounded.ready.cube in
        let ws-are = X.value C A.grounded.ready.cube in
        record {
          y_is = λ e. s.y_term.is e C (member ((j + 1) % 3)) A.grounded.unit_is us-are;
          y_none = λ e. zero_of (s.y_term.none e);
          x_is = λ e. s.x_term.is e C (member ((j + 2) % 3)) ws-are;
          x_none = λ e. zero_of (s.x_term.none e);
          one_is = s.one_term.is C (member ((j + 2) % 3)) ws-are;
        }

    pole_4 : IsPole 4
    pole_4 = pole_intro (omega arith) (omega arith) (omega arith)

    pole_6 : IsPole 6
    pole_6 = pole-large (omega arith)

    pole_7 : IsPole 7
    pole_7 = pole-large (omega arith)

    pole_8 : IsPole 8
    pole_8 = pole-large (omega arith)

    -- the three numbers of a candidate are below p
    three-below : {n : ℕ} {r : Terms} (ns : List ℕ) → Solved q lam us ws n r → Every (λ m. m < p) ns → Every (λ m. m < p) (r.a0 ∷ r.a3 ∷ r.a4 ∷ ns)
    three-below ns s rest = (s.one_term.below, (s.x_term.below, (s.y_term.below, rest)))

    pub starred_by : {r : Divisor} → ByKind q lam us ws r → Starred p (S A) t r
    starred_by (is_11 f g u w sf sg e) =
        let first = colon_x K C (S A).nonzero width scene (solves sf) w in
        let second = colon_one K C (S A).nonzero width scene (mono-y C) pole_4 (omega arith) (solves sg) u w in
        subst (Starred p (S A) t) (sym e)
        (starred k11 (divisor_11 f g) refl (sf.one_term.below, (sg.one_term.below, zeros 7)) (meets_one K C (S A).nonzero width scene, tt)
        (first, (second, tt)))
    starred_by (is_21 f g u w sf sg e) =
        let first = colon_x-one K C (S A).nonzero width scene (mono-y C) pole_4 (omega arith) (solves sf) u in
        let second = colon_x-one K C (S A).nonzero width scene (mono_xx C) pole_6 (omega arith) (solves sg) u in
        subst (Starred p (S A) t) (sym e)
        (starred k21 (divisor_21 f g) refl (sf.one_term.below, (sf.x_term.below, (sg.one_term.below, (sg.x_term.below, zeros 5))))
        (meets_one K C (S A).nonzero width scene, (meets_x K C (S A).nonzero width scene w, tt))
        (first, (second, tt)))
    starred_by (is_22 f g u w sf sg e) =
        let first = colon_x K C (S A).nonzero width scene (solves sf) w in
        let second = colon_y-one K C (S A).nonzero width scene (mono_yy C) pole_8 (omega arith) (solves sg) w in
        subst (Starred p (S A) t) (sym e)
        (starred k22 (divisor_22 f g) refl (sf.one_term.below, (sg.one_term.below, (sg.y_term.below, zeros 6)))
        (meets_one K C (S A).nonzero width scene, (meets_y K C (S A).nonzero width scene u, tt))
        (first, (second, tt)))
    starred_by (is_31 f g h u w sf sg sh e) =
        let last = h.a0 ∷ h.a3 ∷ h.a4 ∷ [] in
        let first = colon_all K C (S A).nonzero width scene (mono_xx C) pole_6 (omega arith) (solves sf) in
        let second = colon_all K C (S A).nonzero width scene (mono_xy C) pole_7 (omega arith) (solves sg) in
        let third = colon_all K C (S A).nonzero width scene (mono_yy C) pole_8 (omega arith) (solves sh) in
        subst (Starred p (S A) t) (sym e)
        (starred k31 (divisor_31 f g h) refl (three-below (g.a0 ∷ g.a3 ∷ g.a4 ∷ last) sf (three-below last sg (three-below [] sh tt)))
        (meets_one K C (S A).nonzero width scene, (meets_x K C (S A).nonzero width scene w, (meets_y K C (S A).nonzero width scene u, tt)))
        (first, (second, (third, tt))))
