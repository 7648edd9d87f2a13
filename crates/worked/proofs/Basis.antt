-- Which records are bases, by computation. A certificate says how y times each member is made of the members, with factors in x.
--   polynomials_xy κ m, members_xy κ m     a record's polynomials and members as expressions, with the numbers m 0, m 1, …
--   values es                              the elements of the expressions es
--   values-polynomials, values-members     they are the record's
--   generated_combine                      the sum of the products q·e is in the ideal that the es generate
--   ideal_combine                          and so for the ideal of a record
--   closed p n κ m qss                     the test that the span of the members is closed under y; basis_sound: then the record is a basis
--   whole p n κ m qs                       the test that 1 is in the ideal of a record of a kind but 0; whole_sound: then it is no basis
--   one-basis                              1 is not in the ideal of a basis of a kind but 0
--   proper κ                               test: κ is a kind but 0
use mathlib.Core.Path.{◌≡◌, refl, sym, ◌∙◌, ap, subst}
use mathlib.Core.Bool.{Bool, true, false}
use mathlib.Core.List.{List, [], ◌∷◌}
use Prim.Native.Nat.{ℕ}
use lib.Dec.{T}
use Rattle.algebra.specs.Ring.{CommRing, ops}
use Rattle.algebra.proofs.Laws as L
use Rattle.algebra.proofs.Norm.{E, num, nil, unit, E-ops}
use Rattle.algebra.proofs.Test.{both, both_left, both_right}
use Rattle.algebra.proofs.Sound.{number, head, tail}
use Rattle.algebra.proofs.Solve.{◌⊠◌, combine}
use Rattle.prime.specs.Prime.{Prime}
use Rattle.field.specs.Residue.{Z, el}
use Rattle.prime_field.specs.Field as field
use Rattle.ideal.specs.Ideal.{Generated}
use Rattle.ideal.specs.Poles.{Poles}
use Rattle.ideal.proofs.Every.{Every, all}
use Rattle.ideal.proofs.Degree.{one-nonzero}
use Rattle.ideal.proofs.Span.{nought, Span}
use Rattle.curve.specs.Curve as K
use Rattle.curve.specs.Curve.{Curve, Coordinate, constant}
use Rattle.curve.proofs.Coefficient.{constant-zero, constant-one}
use Rattle.poles.specs.Poles.{poles}
use Rattle.divisor.specs.Kind.{Kind, k0, k11, k21, k22, k31, polynomials, remaining, IdealOf, MadeOf, IsBasis}
use Rattle.divisor.proofs.Table.{class_by}
use Rattle.divisor.proofs.Members.{member, members}
use Rattle.divisor.proofs.Over.{polynomials_over, members_over}
use Rattle.divisor.proofs.Basis.{Closed, closed-basis}
use Rattle.worked.proofs.Vanish.{x, y, coefficients-of, at_xy, constant_number, agree, agree_sound}
use Rattle.worked.proofs.Element.{only_x, inx_sound}

abbrev pub polynomials_xy : Kind → (ℕ → ℕ) → List E
polynomials_xy κ m = polynomials_over E-ops x y κ (λ i. num (m i))

abbrev pub members_xy : Kind → (ℕ → ℕ) → List E
members_xy κ m = members_over E-ops x y κ (λ i. num (m i))

-- y times each of bs is made of ms
abbrev spans : ℕ → (ℕ → ℕ) → List E → List E → List (List E) → Bool
spans p n ms [] qss = true
spans p n ms (b ∷ bs) qss = both (both (all only_x (head [] qss)) (agree p n (y ⊠ b) (combine ms (head [] qss)))) (spans p n ms bs (tail qss))

abbrev pub closed : ℕ → (ℕ → ℕ) → Kind → (ℕ → ℕ) → List (List E) → Bool
closed p n κ m qss = spans p n (members_xy κ m) (members_xy κ m) qss

abbrev pub proper : Kind → Bool
proper k0 = false
proper k11 = true
proper k21 = true
proper k22 = true
proper k31 = true

abbrev pub whole : ℕ → (ℕ → ℕ) → Kind → (ℕ → ℕ) → List E → Bool
whole p n κ m qs = both (proper κ) (agree p n unit (combine (polynomials_xy κ m) qs))

module _ (p : ℕ) (n : ℕ → ℕ) where
  abbrev C : Curve (Z p)
  C = coefficients-of p n

  abbrev R : CommRing
  R = Coordinate C

  abbrev pub values : List E → List (Coordinate (coefficients-of p n)).Car
  values [] = []
  values (e ∷ es) = at_xy p n e ∷ values es

  -- the numbers m as elements of the ring, at i from the ring's number to the constant
  between : (m : ℕ → ℕ) (j : ℕ) → number R (m j) ≡ constant C (el p (m j))
  between m j = sym (constant_number p C (m j))

  pub values-polynomials : (κ : Kind) (m : ℕ → ℕ) → values (polynomials_xy κ m) ≡ polynomials (coefficients-of p n) κ (λ i. el p (m i))
  values-polynomials k0 m = refl
  values-polynomials k11 m = λ i. polynomials_over (ops R) (K.x C) (K.y C) k11 (λ j. between m j i)
  values-polynomials k21 m = λ i. polynomials_over (ops R) (K.x C) (K.y C) k21 (λ j. between m j i)
  values-polynomials k22 m = λ i. polynomials_over (ops R) (K.x C) (K.y C) k22 (λ j. between m j i)
  values-polynomials k31 m = λ i. polynomials_over (ops R) (K.x C) (K.y C) k31 (λ j. between m j i)

  pub values-members : (κ : Kind) (m : ℕ → ℕ) → values (members_xy κ m) ≡ members (coefficients-of p n) κ (λ i. el p (m i))
  values-members k0 m = refl
  values-members k11 m = λ i. members_over (ops R) (K.x C) (K.y C) k11 (λ j. between m j i)
  values-members k21 m = λ i. members_over (ops R) (K.x C) (K.y C) k21 (λ j. between m j i)
  values-members k22 m = λ i. members_over (ops R) (K.x C) (K.y C) k22 (λ j. between m j i)
  values-members k31 m = λ i. members_over (ops R) (K.x C) (K.y C) k31 (λ j. between m j i)

  pub generated_combine : (es qs : List E) → Generated (Coordinate (coefficients-of p n)) (values es) (at_xy p n (combine es qs))
  generated_combine [] qs = refl
  generated_combine (e ∷ es) qs = (at_xy p n (head nil qs), at_xy p n (combine es (tail qs)), generated_combine es (tail qs), refl)

  -- what agrees with a combination of the polynomials is in the ideal of the record
  pub ideal_combine : (κ : Kind) (m : ℕ → ℕ) (e : E) (qs : List E) → T (agree p n e (combine (polynomials_xy κ m) qs))
      → IdealOf (coefficients-of p n) κ (λ i. el p (m i)) (at_xy p n e)
  ideal_combine κ m e qs t =
      subst (λ gs. Generated R gs (at_xy p n e)) (values-polynomials κ m)
      (subst (Generated R (values (polynomials_xy κ m))) (sym (agree_sound p n e (combine (polynomials_xy κ m) qs) t))
      (generated_combine (polynomials_xy κ m) qs))

  -- 0 and 1 are made of the remaining monomials of every kind but 0
  made-zero : (ms : List R.Car) → MadeOf C ms R.zero
  made-zero [] = refl
  made-zero (u ∷ ms) = ((Z p).zero, R.zero, made-zero ms, sym (R.add_zero _ ∙ ap (λ t. R.mul t u) (constant-zero C) ∙ L.zero-mul R u))

  made_one : (ms : List R.Car) → MadeOf C (R.one ∷ ms) R.one
  made_one ms = ((Z p).one, R.zero, made-zero ms, sym (R.add_zero _ ∙ R.mul_one _ ∙ constant-one C))

  made_proper : (κ : Kind) → T (proper κ) → MadeOf C (remaining C κ) R.one
  made_proper k0 t = absurd t
  made_proper k11 t = made_one []
  made_proper k21 t = made_one (K.x C ∷ [])
  made_proper k22 t = made_one (K.y C ∷ [])
  made_proper k31 t = made_one (K.x C ∷ K.y C ∷ [])

  module _ (h : Prime p) where
    abbrev P : Poles (Coordinate C)
    P = poles (field.F p h) C (field.F p h).nontrivial

    span_combine : (es qs : List E) → T (all only_x qs) → Span P (values es) (at_xy p n (combine es qs))
    span_combine [] qs t = refl
    span_combine (e ∷ es) [] t = (R.zero, at_xy p n (combine es []), nought refl, span_combine es [] tt, refl)
    span_combine (e ∷ es) (q ∷ qs) t =
        let i = inx_sound p n h q (both_left (only_x q) (all only_x qs) t) in
        (at_xy p n q, at_xy p n (combine es qs), i, span_combine es qs (both_right (only_x q) (all only_x qs) t), refl)

    spans_sound : (ms bs : List E) (qss : List (List E)) → T (spans p n ms bs qss)
        → Every (λ b. Span P (values ms) (R.mul (K.y C) b)) (values bs)
    spans_sound ms [] qss t = tt
    spans_sound ms (b ∷ bs) qss t = (
      subst (Span P (values ms)) (sym (agree_sound p n (y ⊠ b) (combine ms (head [] qss)) (both_right (all only_x (head [] qss)) _ first)))
          (span_combine ms (head [] qss) (both_left (all only_x (head [] qss)) _ first)),
      spans_sound ms bs (tail qss) (both_right (both (all only_x (head [] qss)) (agree p n (y ⊠ b) (combine ms (head [] qss)))) _ t),
    )
      where
        first : T (both (all only_x (head [] qss)) (agree p n (y ⊠ b) (combine ms (head [] qss))))
        first = both_left (both (all only_x (head [] qss)) (agree p n (y ⊠ b) (combine ms (head [] qss)))) _ t

    module _ (κ : Kind) (m : ℕ → ℕ) where
      abbrev ν : ℕ → (Z p).Car
      ν i = el p (m i)

      closed_sound : (qss : List (List E)) → T (closed p n κ m qss) → Closed (field.F p h) C (field.F p h).nontrivial κ ν
      closed_sound qss t =
          go
          (subst (λ ms. Every (λ b. Span P ms (R.mul (K.y C) b)) ms) (values-members κ m) (spans_sound (members_xy κ m) (members_xy κ m) qss t))
        where
          go : Every (λ b. Span P (members C κ ν) (R.mul (K.y C) b)) (members C κ ν)
              → Closed (field.F p h) C (field.F p h).nontrivial κ ν
          go (a, (b, (c, _))) = class_by (λ j. Span P (members C κ ν) (R.mul (K.y C) (member C κ ν j))) a b c

      pub basis_sound : (qss : List (List E)) → T (closed p n κ m qss) → IsBasis (coefficients-of p n) κ (λ i. el p (m i))
      basis_sound qss t = closed-basis (field.F p h) C (field.F p h).nontrivial κ ν (closed_sound qss t)

      pub one-basis : T (proper κ) → IsBasis (coefficients-of p n) κ (λ i. el p (m i))
          → ¬ IdealOf (coefficients-of p n) κ (λ i. el p (m i)) (Coordinate (coefficients-of p n)).one
      one-basis t b i = one-nonzero P (b R.one i (made_proper κ t))

      pub whole_sound : (qs : List E) → T (whole p n κ m qs) → ¬ IsBasis (coefficients-of p n) κ (λ i. el p (m i))
      whole_sound qs t b = one-basis (both_left (proper κ) _ t) b (ideal_combine κ m unit qs (both_right (proper κ) _ t))
