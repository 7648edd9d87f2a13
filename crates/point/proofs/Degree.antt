-- The multiplicities of the points of a divisor add up to at most its degree, the number of its remaining monomials.
--   every_absent           a number that differs from each of a list is not in the list
--   apart_by               ideals that hold t + m and t + n, m and n different constants, hold u and v with u + v = 1
--   point-x, point-y       the ideal of the point (a, b) holds x − a and y − b
--   point-invertible, point-based_ideal, point_proper      it is invertible, based and not the whole ring
--   points-apart           the ideals of different points are apart
--   divisor-leads          the ideal of a divisor has all leads but the pole numbers of the remaining monomials
--   points-bound           if the ideal of a divisor lies inside the power times q ps of each point q, ps is no longer than the degree
--   degree_three           the degree is at most 3
--   points-three           … so ps has at most three pairs
--   points_suffice         … and so have the points of a divisor, each counted as often as its multiplicity
-- For a ≠ a' is (x − a) − (x − a') = a' − a a constant other than zero, with an inverse in the field of p elements; so for b ≠ b' with y.
-- The record of a point is a basis, and 1 is made of its remaining monomial alone: 1 is not in the ideal.
-- powers_bound of crate powers does the rest, for the ideal of a basis has every lead that does not remain.
use mathlib.Core.Path.{◌≡◌, refl, sym, ◌∙◌, ap, subst}
use mathlib.Core.Bool.{Bool, true, false, not}
use mathlib.Core.List.{List, [], ◌∷◌}
use Prim.Native.Nat.{ℕ, ◌<◌, ◌≤◌}
use native.Mathlib.Decide.{ℕ_discrete}
use native.Mathlib.Omega.{arith}
use lib.Dec.{T, eqb, eqb→eq}
use lib.ListN.{length}
use Rattle.algebra.specs.Ring.{Field}
use Rattle.algebra.proofs.Laws as laws
use Rattle.algebra.proofs.Norm.{nil, unit}
use Rattle.algebra.proofs.Solve.{◌⊞◌, ◌⊠◌, ⊟◌, solve}
use Rattle.algebra.proofs.Test.{both}
use Rattle.ideal.specs.Ideal.{IsIdeal}
use Rattle.ideal.specs.Poles.{IsPole, Poles}
use Rattle.ideal.specs.Invertible.{InvertibleIdeal}
use Rattle.ideal.proofs.Every.{Every}
use Rattle.ideal.proofs.Degree.{one-nonzero}
use Rattle.ideal.proofs.Leads.{Lead}
use Rattle.ideal.proofs.Generated.{generated_each}
use Rattle.ideal.proofs.Finite.{BasedIdeal}
use Rattle.powers.specs.Power.{Inside}
use Rattle.powers.proofs.Products.{Apart}
use Rattle.powers.proofs.Bound.{powers_bound}
use Rattle.field.specs.Residue.{Z, el}
use Rattle.field.proofs.Element.{el-num, el_inj}
use Rattle.prime_field.specs.Field.{F}
use Rattle.curve.specs.Curve.{Curve, Coordinate, x, y, constant}
use Rattle.curve.proofs.Coefficient.{constant-one, constant-add, constant-neg, constant-mul}
use Rattle.divisor.specs.Kind.{Kind, k11, polynomials, remaining, IdealOf, IsBasis}
use Rattle.divisor.proofs.Terms.{absent}
use Rattle.divisor.proofs.Table.{Reached, kind_by, remaining-poles, absent_reached}
use Rattle.divisor.proofs.Basis.{basis-lead}
use Rattle.basis.specs.Divisor.{residues}
use Rattle.record.specs.Curve.{modulus, equation, AcceptedCurve, setting_of, accepted_prime}
use Rattle.record.specs.Divisor.{OfKind, number_at, AcceptedDivisor}
use Rattle.record.proofs.Accepted.{Reads, accepted_reads, ideal_reads}
use Rattle.record.proofs.Invertible.{accepted-invertible}
use Rattle.calls.specs.Class.{Ring, Ideal, poles_on}
use Rattle.calls.proofs.Class.{accepted-based}
use Rattle.point.specs.Point.{Pair, Point, point_record, PointPower, times, AllPoints, IsPoints}
use Rattle.point.proofs.Records.{point-value, point-basis, point-accepted, point-ideal}
use Rattle.point.proofs.Times.{same-pair, times_none, times_here, times_other, points_every}

every_absent : (n : ℕ) (ns : List ℕ) → Every (λ m. ¬ (n ≡ m)) ns → T (absent n ns)
every_absent n [] _ = tt
every_absent n (m ∷ ns) (d, ds) = go (eqb n m) refl (every_absent n ns ds)
  where
    go : (b : Bool) → eqb n m ≡ b → T (absent n ns) → T (both (not b) (absent n ns))
    go true e t = absurd (d (eqb→eq n m (subst T (sym e) tt)))
    go false e t = t

module _ (K : Field) (C : Curve K.ring) {I J : (Coordinate C).Car → Type 0} (i : IsIdeal (Coordinate C) I) (j : IsIdeal (Coordinate C) J) where
  open K.ring use {Car, add as ◌+◌, mul as ◌·◌, neg as -◌}
  open Coordinate C use {Car as El, one as 𝟏, add as ◌⊕◌, mul as ◌⊗◌, neg as ⊖◌}

  infixl 60 ◌+◌ ◌⊕◌
  infixl 70 ◌·◌ ◌⊗◌
  infix 80 -◌ ⊖◌
  -- w·(t + m) − w·(t + n) = 1 for w = 1 / (m − n)
  pub apart_by : (t : El) (m n : Car) → ¬ (m ≡ n) → I (t ⊕ constant C m) → J (t ⊕ constant C n) → (u v : El) × I u × J v × (u ⊕ v ≡ 𝟏)
  apart_by t m n d mi mj = (
    constant C w ⊗ (t ⊕ constant C m),
    ⊖ constant C w ⊗ (t ⊕ constant C n),
    i.times (constant C w) mi,
    j.times (⊖ constant C w) mj,
    without-t (constant C w) t (constant C m) (constant C n)
        ∙ sym (constant-mul C w (m + - n) ∙ ap (λ u. constant C w ⊗ u) (constant-add C m (- n) ∙ ap (λ u. constant C m ⊕ u) (constant-neg C n)))
        ∙ ap (constant C) (K.ring.mul_comm w (m + - n) ∙ K.mul_inv (m + - n) (λ e. d (laws.sub-zero→eq K.ring m n e)))
        ∙ constant-one C,
  )
    where
      w : Car
      w = K.inv (m + - n)

      without-t : (w t m n : El) → w ⊗ (t ⊕ m) ⊕ ⊖ w ⊗ (t ⊕ n) ≡ w ⊗ (m ⊕ ⊖ n)
      without-t = solve (Coordinate C) 4 (λ w t m n. w ⊠ (t ⊞ m) ⊞ ⊟ w ⊠ (t ⊞ n)) (λ w t m n. w ⊠ (m ⊞ ⊟ n)) tt

module _ (c : List ℕ) (A : AcceptedCurve c) where
  open Ring c use {Car, zero as 𝟎, one as 𝟏, add as ◌⊕◌, mul as ◌⊗◌}

  infixl 60 ◌⊕◌
  infixl 70 ◌⊗◌
  abbrev p : ℕ
  p = modulus c

  abbrev P : Poles (Ring c)
  P = poles_on c A

  abbrev opposite : ℕ → (Z p).Car
  opposite a = (Z p).neg (el p a)

  pub point-x : (a b : ℕ) → Ideal c (point_record c (a, b)) (x (equation c) ⊕ constant (equation c) (opposite a))
  point-x a b =
      subst (λ u. Ideal c (point_record c (a, b)) (x (equation c) ⊕ constant (equation c) u)) (el-num p (opposite a))
      ((point-ideal c A (a, b) _).0 (generated_each (Ring c) (polynomials (equation c) k11 (residues p (point-value c (a, b))))).0)

  pub point-y : (a b : ℕ) → Ideal c (point_record c (a, b)) (y (equation c) ⊕ constant (equation c) (opposite b))
  point-y a b =
      subst (λ u. Ideal c (point_record c (a, b)) (y (equation c) ⊕ constant (equation c) u)) (el-num p (opposite b))
      ((point-ideal c A (a, b) _).0 (generated_each (Ring c) (polynomials (equation c) k11 (residues p (point-value c (a, b))))).1.0)

  pub point-invertible : (q : Pair) → Point c q → InvertibleIdeal (Ring c) (Ideal c (point_record c q))
  point-invertible q g = accepted-invertible c (point_record c q) A (point-accepted c A q g.1).1

  pub point-based_ideal : (q : Pair) → Point c q → BasedIdeal P (Ideal c (point_record c q))
  point-based_ideal q g = accepted-based c A (point_record c q) (point-accepted c A q g.1).1

  pub point_proper : (q : Pair) → Point c q → ¬ Ideal c (point_record c q) 𝟏
  point_proper q g i = one-nonzero P (point-basis c A q g.1 𝟏 ((point-ideal c A q 𝟏).1 i) ((Z p).one, 𝟎, refl, alone))
    where
      alone : 𝟏 ≡ constant (equation c) (Z p).one ⊗ 𝟏 ⊕ 𝟎
      alone = sym (ap (λ u. u ⊗ 𝟏 ⊕ 𝟎) (constant-one (equation c)) ∙ solve (Ring c) 0 (unit ⊠ unit ⊞ nil) unit tt)

  opposite-apart : (a a' : ℕ) → a < p → a' < p → ¬ (a ≡ a') → ¬ (opposite a ≡ opposite a')
  opposite-apart a a' l l' d e =
      d (el_inj p a a' l l' (sym (laws.neg-neg (Z p) (el p a)) ∙ ap (Z p).neg e ∙ laws.neg-neg (Z p) (el p a')))

  abbrev Comaximal : Pair → Pair → Type 0
  Comaximal q r = (u v : Car) × Ideal c (point_record c q) u × Ideal c (point_record c r) v × (u ⊕ v ≡ 𝟏)

  comaximal : (q r : Pair) → Point c q → Point c r → ¬ (q ≡ r) → Comaximal q r
  comaximal (a, b) (a', b') g g' d = go (ℕ_discrete a a') (ℕ_discrete b b')
    where
      both_ideals : (t : Car) (m n : (Z p).Car) → ¬ (m ≡ n) → Ideal c (point_record c (a, b)) (t ⊕ constant (equation c) m)
          → Ideal c (point_record c (a', b')) (t ⊕ constant (equation c) n) → Comaximal (a, b) (a', b')
      both_ideals = apart_by (F p (accepted_prime c A)) (equation c) (point-invertible (a, b) g).ideal (point-invertible (a', b') g').ideal

      go : Dec (a ≡ a') → Dec (b ≡ b') → Comaximal (a, b) (a', b')
      go (no e) f = both_ideals (x (equation c)) (opposite a) (opposite a') (opposite-apart a a' g.0.0 g'.0.0 e) (point-x a b) (point-x a' b')
      go (yes e) (no f) = both_ideals (y (equation c)) (opposite b) (opposite b') (opposite-apart b b' g.0.1 g'.0.1 f) (point-y a b) (point-y a' b')
      go (yes e) (yes f) = absurd (d (λ i. (e i, f i)))

  pub points-apart : Apart (Ring c) (λ q. Ideal c (point_record c q)) times (Point c)
  points-apart = record {
    same = same-pair;
    times_none = times_none;
    times_here = times_here;
    times_other = times_other;
    invertible = point-invertible;
    apart = comaximal;
  }

  -- The pole numbers of the remaining monomials are as many as these.
  as_many : (κ : Kind) → length (remaining (equation c) κ) ≡ length (remaining-poles κ)
  as_many = kind_by (λ κ. length (remaining (equation c) κ) ≡ length (remaining-poles κ)) refl refl refl refl refl

  pub degree_three : (κ : Kind) → length (remaining (equation c) κ) ≤ 3
  degree_three =
      kind_by (λ κ. length (remaining (equation c) κ) ≤ 3) (omega arith) (omega arith) (omega arith) (omega arith) (omega arith)

  pub divisor-leads : (d : List ℕ) → AcceptedDivisor (modulus c) (equation c) d → (κ : Kind) → OfKind d κ → (n : ℕ) → IsPole n
      → Every (λ m. ¬ (n ≡ m)) (remaining-poles κ) → Lead P (Ideal c d) n
  divisor-leads d a κ e n pole ds = go (basis-lead (F p (accepted_prime c A)) (equation c) (setting_of c A).nonzero κ (number_at p d) basis n reached)
    where
      basis : IsBasis (equation c) κ (number_at p d)
      basis = a.1.1.1.1.0 κ e

      reached : Reached κ n
      reached = absent_reached κ n pole (every_absent n (remaining-poles κ) ds)

      go : Lead P (IdealOf (equation c) κ (number_at p d)) n → Lead P (Ideal c d) n
      go (u, m, h) = (u, (ideal_reads p (equation c) κ d e u).1 m, h)

  pub points-bound : (d : List ℕ) → AcceptedDivisor (modulus c) (equation c) d → (κ : Kind) → OfKind d κ → (ps : List Pair) → AllPoints c ps
      → ((q : Pair) → Point c q → Inside (Ring c) (Ideal c d) (PointPower c q (times q ps))) → length ps ≤ length (remaining (equation c) κ)
  points-bound d a κ e ps hs inside =
      subst (λ (n : ℕ). length ps ≤ n) (sym (as_many κ))
      (powers_bound P points-apart point-based_ideal point_proper (remaining-poles κ) (divisor-leads d a κ e) ps (points_every c ps hs) inside)

  pub points-three : (d : List ℕ) → AcceptedDivisor (modulus c) (equation c) d → (ps : List Pair) → AllPoints c ps
      → ((q : Pair) → Point c q → Inside (Ring c) (Ideal c d) (PointPower c q (times q ps))) → length ps ≤ 3
  points-three d a ps hs inside = go (accepted_reads (modulus c) (equation c) d a)
    where
      go : (κ : Kind) × Reads (modulus c) (equation c) κ d → length ps ≤ 3
      go (κ, r) = omega (arith, points-bound d a κ r.kind ps hs inside, degree_three κ)

  -- so a slice of six numbers has room for the points of every divisor
  pub points_suffice : (d : List ℕ) → AcceptedDivisor (modulus c) (equation c) d → (ps : List Pair) → IsPoints c d ps → length ps ≤ 3
  points_suffice d a ps h = points-three d a ps h.points (λ q g. (h.often q g).inside)
