-- Negatives and points by computation. The record w is the negative of a if each product of their polynomials is a multiple of f, the first
-- polynomial of a and so its least element, and if for each pole number r that remains for w the number deg f + 5 − r is a lead of a.
--   low κ                  the class modulo 3 of the kind's least member
--   basis-least            the least element of the ideal of a basis
--   negated c a w κs qs    the test, with the quotients qs by f; negative_sound: w is the negative of a
--   located c a b κ w      the test that w is the record of the point (a, b); point_sound
use mathlib.Core.Path.{◌≡◌, refl, sym, ◌∙◌, ap, ap₂, subst}
use mathlib.Core.Bool.{Bool, true, false}
use mathlib.Core.List.{List, [], ◌∷◌}
use Prim.Native.Nat.{ℕ, ◌+◌, ◌-◌, ◌%◌, ◌≤◌}
use native.Mathlib.Omega.{arith}
use lib.Dec.{T, leb, leb→le}
use Rattle.algebra.specs.Ring.{CommRing, Field}
use Rattle.algebra.proofs.Norm.{E, num, nil}
use Rattle.algebra.proofs.Test.{both, both_left, both_right}
use Rattle.algebra.proofs.Sound.{number, head, tail}
use Rattle.algebra.proofs.Solve.{◌⊞◌, ◌⊠◌, ⊟◌}
use Rattle.field.specs.Residue.{Z, el}
use Rattle.prime_field.specs.Field as field
use Rattle.ideal.specs.Ideal.{Generated, Multiple, Colon, SameIdeal}
use Rattle.ideal.specs.Poles.{largest_gap, Poles}
use Rattle.ideal.specs.Reduced.{Least, IsStar}
use Rattle.ideal.proofs.Same.{same_sym, same_trans}
use Rattle.ideal.proofs.Every.{Every, every_map}
use Rattle.ideal.proofs.Degree.{monic-pole}
use Rattle.ideal.proofs.Leads.{Lead, least-same}
use Rattle.ideal.proofs.Generated.{generated_each, generated_in, products_source}
use Rattle.ideal.proofs.Colon.{colon_ideal, colon_same}
use Rattle.curve.specs.Curve as K
use Rattle.curve.specs.Curve.{Curve, Coordinate, constant}
use Rattle.poles.specs.Poles.{poles}
use Rattle.divisor.specs.Kind.{Kind, k0, k11, k21, k22, k31, polynomials, IdealOf, IsBasis}
use Rattle.divisor.proofs.Table.{degree, remaining-poles, kind_by, class_by}
use Rattle.divisor.proofs.Members.{member, member-monic}
use Rattle.divisor.proofs.Basis.{basis-lead, lead-basis}
use Rattle.divisor.proofs.Star.{star_recognised}
use Rattle.record.specs.Curve.{modulus, coefficient_number, equation, AcceptedCurve, accepted_prime}
use Rattle.record.specs.Divisor.{OfKind, number_at}
use Rattle.record.proofs.Accepted.{Reads, ideal_reads}
use Rattle.calls.specs.Class.{Ring, Record, Ideal, poles_on, IsNegative}
use Rattle.worked.specs.Table.{Point}
use Rattle.worked.proofs.Vanish.{x, y, coefficients-of, at_xy, constant_number, agree, agree_sound}
use Rattle.worked.proofs.Basis.{values, values-polynomials}
use Rattle.worked.proofs.Accepted.{numbers_of}
use Rattle.worked.proofs.Link.{products_xy, values-products, polynomials-of, ideal-values}

abbrev low : Kind → ℕ
low k0 = 0
low k11 = 0
low k21 = 1
low k22 = 0
low k31 = 0

low-bound : (κ : Kind) → low κ ≤ 2
low-bound = kind_by (λ κ. low κ ≤ 2) (omega arith) (omega arith) (omega arith) (omega arith) (omega arith)

low-least : (κ : Kind) (j : ℕ) → j ≤ 2 → degree κ (low κ) ≤ degree κ j
low-least =
    kind_by (λ κ. (j : ℕ) → j ≤ 2 → degree κ (low κ) ≤ degree κ j)
    (class_by _ (omega arith) (omega arith) (omega arith))
    (class_by _ (omega arith) (omega arith) (omega arith))
    (class_by _ (omega arith) (omega arith) (omega arith))
    (class_by _ (omega arith) (omega arith) (omega arith))
    (class_by _ (omega arith) (omega arith) (omega arith))

module _ (K : Field) (C : Curve K.ring) (nonzero : ¬ (C.a0 ≡ K.ring.zero)) (κ : Kind) (ν : ℕ → K.ring.Car) where
  abbrev P : Poles (Coordinate C)
  P = poles K C nonzero

  low-member : (κ : Kind) → IdealOf C κ ν (member C κ ν (low κ))
  low-member k0 = (generated_each (Coordinate C) (polynomials C k0 ν)).0
  low-member k11 = (generated_each (Coordinate C) (polynomials C k11 ν)).0
  low-member k21 = (generated_each (Coordinate C) (polynomials C k21 ν)).0
  low-member k22 = (generated_each (Coordinate C) (polynomials C k22 ν)).0
  low-member k31 = (generated_each (Coordinate C) (polynomials C k31 ν)).0

  pub basis-least : IsBasis C κ ν → Least P (IdealOf C κ ν) (member C κ ν (low κ))
  basis-least b =
      record {
        pole = degree κ (low κ);
        member = low-member κ;
        monic = member-monic K C nonzero ν κ (low κ) (low-bound κ);
        lowest = λ h m i q. omega (arith, lead-basis K C nonzero κ ν b m (h, i, q), low-least κ (m % 3) (omega arith));
      }

-- the first polynomial of a record
abbrev first : Kind → List ℕ → E
first κ w = head nil (polynomials-of κ w)

-- each e is f·q
abbrev divided : ℕ → (ℕ → ℕ) → E → List E → List E → Bool
divided p n f [] qs = true
divided p n f (e ∷ es) qs = both (agree p n e (f ⊠ head nil qs)) (divided p n f es (tail qs))

-- d + 5 − r is a lead of the kind κ, for each r of rs
abbrev met : Kind → ℕ → List ℕ → Bool
met κ d [] = true
met κ d (r ∷ rs) = both (both (leb r (d + largest_gap)) (leb (degree κ ((d + largest_gap - r) % 3)) (d + largest_gap - r))) (met κ d rs)

abbrev pub negated : (c a w : List ℕ) → Kind → Kind → List E → Bool
negated c a w κa κw qs =
    both (met κa (degree κa (low κa)) (remaining-poles κw))
    (divided (modulus c) (coefficient_number c) (first κa a) (products_xy (polynomials-of κw w) (polynomials-of κa a)) qs)

module _ (p : ℕ) (n : ℕ → ℕ) where
  abbrev C : Curve (Z p)
  C = coefficients-of p n

  abbrev R : CommRing
  R = Coordinate C

  divided_sound : (f : E) (es qs : List E) → T (divided p n f es qs) → Every (Multiple R (at_xy p n f)) (values p n es)
  divided_sound f [] qs t = tt
  divided_sound f (e ∷ es) qs t = (
    (at_xy p n (head nil qs), agree_sound p n e (f ⊠ head nil qs) (both_left (agree p n e (f ⊠ head nil qs)) _ t)),
    divided_sound f es (tail qs) (both_right (agree p n e (f ⊠ head nil qs)) _ t),
  )

  -- w·h is a multiple of f for each h that gs generate, if w·g is for each g of gs
  colon_one : (f w : R.Car) (gs : List R.Car) → Every (λ g. Multiple R f (R.mul w g)) gs → Colon R f (Generated R gs) w
  colon_one f w gs ms h i =
      subst (Multiple R f) (R.mul_comm h w) (generated_in R (colon_ideal R f (λ u. u ≡ w)) gs (every_map turn gs ms) h i w refl)
    where
      turn : (g : R.Car) → Multiple R f (R.mul w g) → Colon R f (λ u. u ≡ w) g
      turn g m u e = subst (Multiple R f) (R.mul_comm w g ∙ ap (R.mul g) (sym e)) m

  colon_each : (f : E) (ws gs qs : List E) → T (divided p n f (products_xy ws gs) qs)
      → Every (Colon R (at_xy p n f) (Generated R (values p n gs))) (values p n ws)
  colon_each f ws gs qs t =
      every_map (λ w. colon_one (at_xy p n f) w (values p n gs)) (values p n ws)
      (products_source R (Multiple R (at_xy p n f)) (values p n ws) (values p n gs)
      (subst (Every (Multiple R (at_xy p n f))) (values-products p n ws gs) (divided_sound f (products_xy ws gs) qs t)))

  first-is : (κ : Kind) (w : List ℕ) → at_xy p n (first κ w) ≡ member C κ (λ i. el p (numbers_of w i)) (low κ)
  first-is κ w = go κ (values-polynomials p n κ (numbers_of w))
    where
      go : (κ : Kind) → values p n (polynomials-of κ w) ≡ polynomials C κ (λ i. el p (numbers_of w i))
          → at_xy p n (first κ w) ≡ member C κ (λ i. el p (numbers_of w i)) (low κ)
      go k0 e = ap (head R.zero) e
      go k11 e = ap (head R.zero) e
      go k21 e = ap (head R.zero) e
      go k22 e = ap (head R.zero) e
      go k31 e = ap (head R.zero) e

module _ (c : List ℕ) (A : AcceptedCurve c) (a w : List ℕ) (κa κw : Kind) where
  abbrev p : ℕ
  p = modulus c

  abbrev n : ℕ → ℕ
  n = coefficient_number c

  abbrev Q : Poles (Ring c)
  Q = poles_on c A

  abbrev F : Field
  F = field.F p (accepted_prime c A)

  -- the ideals of a and w, with their kinds
  abbrev Ia : (Ring c).Car → Type 0
  Ia = IdealOf (equation c) κa (number_at p a)

  abbrev Iw : (Ring c).Car → Type 0
  Iw = IdealOf (equation c) κw (number_at p w)

  -- the least element of a
  abbrev f : (Ring c).Car
  f = member (equation c) κa (number_at p a) (low κa)

  met_sound : IsBasis (equation c) κa (number_at p a) → (d : ℕ) (rs : List ℕ) → T (met κa d rs)
      → Every (λ r. (m : ℕ) × Lead Q Ia m × (r + m ≡ d + largest_gap)) rs
  met_sound b d [] t = tt
  met_sound b d (r ∷ rs) t =
      let m = d + largest_gap - r in
      let u = both_left (both (leb r (d + largest_gap)) (leb (degree κa (m % 3)) m)) _ t in
      let l : r ≤ d + largest_gap = leb→le r (d + largest_gap) (both_left (leb r (d + largest_gap)) _ u) in
      let lead = basis-lead F (equation c) F.nontrivial κa (number_at p a) b m (leb→le _ _ (both_right (leb r (d + largest_gap)) _ u)) in
      ((m, lead, omega arith), met_sound b d rs (both_right (both (leb r (d + largest_gap)) (leb (degree κa (m % 3)) m)) _ t))

  inside : (qs : List E) → T (negated c a w κa κw qs) → Every (Colon (Ring c) f Ia) (polynomials (equation c) κw (number_at p w))
  inside qs t =
      subst (λ u. Every (Colon (Ring c) u Ia) (polynomials (equation c) κw (number_at p w))) (first-is p n κa a)
      (subst (λ gs. Every (Colon (Ring c) (at_xy p n (first κa a)) (Generated (Ring c) gs)) (polynomials (equation c) κw (number_at p w)))
      (values-polynomials p n κa (numbers_of a))
      (subst (Every (Colon (Ring c) (at_xy p n (first κa a)) (Generated (Ring c) (values p n (polynomials-of κa a)))))
      (values-polynomials p n κw (numbers_of w))
      (colon_each p n (first κa a) (polynomials-of κw w) (polynomials-of κa a) qs (both_right (met κa (degree κa (low κa)) (remaining-poles κw)) _ t))))

  star_sound : IsBasis (equation c) κa (number_at p a) → (qs : List E) → T (negated c a w κa κw qs) → IsStar Q Ia Iw
  star_sound b qs t =
      (star_recognised F (equation c) F.nontrivial κw (number_at p w) (basis-least F (equation c) F.nontrivial κa (number_at p a) b)
      (monic-pole Q (member-monic F (equation c) F.nontrivial (number_at p a) κa (low κa) (low-bound κa)))
      (met_sound b (degree κa (low κa)) (remaining-poles κw) (both_left (met κa (degree κa (low κa)) (remaining-poles κw)) _ t))
      (inside qs t)
      ).1

  pub negative_sound : Reads (modulus c) (equation c) κa a → OfKind w κw → Record c w → (qs : List E) → T (negated c a w κa κw qs)
      → IsNegative c a w
  negative_sound ra ew r qs t = record { curve = A; accepted = r; star = go (star_sound ra.basis qs t) }
    where
      ia : SameIdeal (Ring c) Ia (Ideal c a)
      ia = same_sym (Ring c) (ideal_reads p (equation c) κa a ra.kind)

      iw : SameIdeal (Ring c) (Ideal c w) Iw
      iw = ideal_reads p (equation c) κw w ew

      go : IsStar Q Ia Iw → IsStar Q (Ideal c a) (Ideal c w)
      go s =
          record {
            f = s.f;
            least = least-same Q ia s.least;
            same = same_trans (Ring c) iw (same_trans (Ring c) s.same (colon_same (Ring c) s.f ia));
          }

-- two lists of expressions agree one by one
abbrev same : ℕ → (ℕ → ℕ) → List E → List E → Bool
same p n [] [] = true
same p n [] (e ∷ es) = false
same p n (d ∷ ds) [] = false
same p n (d ∷ ds) (e ∷ es) = both (agree p n d e) (same p n ds es)

same_sound : (p : ℕ) (n : ℕ → ℕ) (ds es : List E) → T (same p n ds es) → values p n ds ≡ values p n es
same_sound p n [] [] t = refl
same_sound p n [] (e ∷ es) t = absurd t
same_sound p n (d ∷ ds) [] t = absurd t
same_sound p n (d ∷ ds) (e ∷ es) t =
    ap₂ ◌∷◌ (agree_sound p n d e (both_left (agree p n d e) _ t)) (same_sound p n ds es (both_right (agree p n d e) _ t))

-- x − a and y − b
abbrev point_xy : ℕ → ℕ → List E
point_xy a b = (x ⊞ ⊟ (num a)) ∷ (y ⊞ ⊟ (num b)) ∷ []

abbrev pub located : (c : List ℕ) (a b : ℕ) → Kind → List ℕ → Bool
located c a b κ w = same (modulus c) (coefficient_number c) (polynomials-of κ w) (point_xy a b)

module _ (c : List ℕ) (a b : ℕ) where
  -- with the ring's numbers for the constants
  abbrev minus-at : (Ring c).Car → (Ring c).Car → (Ring c).Car
  minus-at u v = (Ring c).add u ((Ring c).neg v)

  pub point_sound : (κ : Kind) (w : List ℕ) → OfKind w κ → T (located c a b κ w) → SameIdeal (Ring c) (Ideal c w) (Point c a b)
  point_sound κ w e t =
      subst (λ gs. SameIdeal (Ring c) (Ideal c w) (Generated (Ring c) gs))
      (same_sound (modulus c) (coefficient_number c) (polynomials-of κ w) (point_xy a b) t
      ∙ sym (λ i. minus-at (K.x (equation c)) (number_is a i) ∷ minus-at (K.y (equation c)) (number_is b i) ∷ []))
      (ideal-values c κ w e)
    where
      number_is : (m : ℕ) → constant (equation c) (el (modulus c) m) ≡ number (Ring c) m
      number_is m = constant_number (modulus c) (equation c) m
