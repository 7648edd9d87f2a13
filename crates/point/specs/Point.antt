-- Document 02, 2026-02, "From points to a class and back", and 2026-06, "Points in a fixed order": the points of a curve and of a divisor.
-- c is the curve's bytes, d a divisor's.
--   Pair                       a pair of coordinates
--   InField c q                both coordinates are in the field: below p
--   OnCurve c q                the pair is on the curve: F is 0 there
--   Point c q                  both
--   point_record c q           the point's record: kind 11, with the polynomials x − a and y − b
--   PointPower c q k           the k-th power of the point's ideal
--   IsMultiplicity c d q k     k is the multiplicity of the point q
--   times q ps                 how often the pair q stands in the list ps
--   AllPoints c ps             each pair of ps is a point
--   Rises q r                  r may follow q: its first coordinate is greater; or it is the same, and the second is not less
--   Rising ps                  each pair of ps may follow the one before it
--   IsPoints c d ps            ps are the points of the divisor d, each as often as its multiplicity, in rising order
use Rattle.std.specs.Prelude.{◌≡◌, ◌&&◌, ◌⊎◌, ℕ, ◌+◌, ◌<◌, ◌≤◌, eqb}
use mathlib.Core.List.{List, [], ◌∷◌, IsChain}
use Rattle.algebra.specs.Ring.{CommRing}
use Rattle.powers.specs.Power.{Power, Inside}
use Rattle.field.specs.Residue.{Z, el, num}
use Rattle.nonsingular.specs.Equation.{F}
use Rattle.divisor.specs.Kind.{code, k11}
use Rattle.layout.specs.Layout.{record_bytes}
use Rattle.record.specs.Curve.{modulus, equation}
use Rattle.calls.specs.Class.{Ring, Ideal}
use Rattle.calls.specs.Call.{one_if}
use Rattle.point.specs.Value.{value_at}

abbrev pub Pair : Type 0
Pair = ℕ × ℕ

module _ (c : List ℕ) where
  abbrev pub InField : Pair → Type 0
  InField (a, b) = (a < modulus c) × (b < modulus c)

  -- otherwise: "a pair off the curve"
  abbrev pub OnCurve : Pair → Type 0
  OnCurve (a, b) = value_at (Z (modulus c)) (el (modulus c) a) (el (modulus c) b) (F (equation c)) ≡ (Z (modulus c)).zero

  abbrev pub Point : Pair → Type 0
  Point q = InField q × OnCurve q

  -- "their kind 11 records": x + f0 and y + g0 are x − a and y − b
  abbrev pub point_record : Pair → List ℕ
  point_record (a, b) =
      let p = modulus c in
      record_bytes (code k11) (num p ((Z p).neg (el p a)) ∷ num p ((Z p).neg (el p b)) ∷ [])

  abbrev pub PointPower : Pair → ℕ → (Ring c).Car → Type 0
  PointPower q k = Power (Ring c) (Ideal c (point_record q)) k

  -- "A point's multiplicity is the largest k for which the ideal lies inside the k-th power of the point's ideal".
  pub record IsMultiplicity (d : List ℕ) (q : Pair) (k : ℕ) : Type 0 where
    pub inside : Inside (Ring c) (Ideal c d) (PointPower q k)
    pub largest : (j : ℕ) → Inside (Ring c) (Ideal c d) (PointPower q j) → j ≤ k

abbrev pub times : Pair → List Pair → ℕ
times (a, b) [] = 0
times (a, b) ((a', b') ∷ ps) = one_if (eqb a a' && eqb b b') + times (a, b) ps

abbrev pub AllPoints : (c : List ℕ) → List Pair → Type 0
AllPoints c [] = Unit
AllPoints c (q ∷ qs) = Point c q × AllPoints c qs

-- "with rising first coordinate, then rising second"
abbrev pub Rises : Pair → Pair → Type 0
Rises (a, b) (a', b') = (a < a') ⊎ ((a ≡ a') × (b ≤ b'))

-- 2026-06: "The points of a divisor come with rising first coordinate, then rising second; repeats stand together."
abbrev pub Rising : List Pair → Type 0
Rising ps = IsChain Rises ps

-- "every point of a divisor record that has both coordinates in the field", "and the pair is written that many times"
pub record IsPoints (c d : List ℕ) (ps : List Pair) : Type 0 where
  pub points : AllPoints c ps
  pub often : (q : Pair) → Point c q → IsMultiplicity c d q (times q ps)
  pub rising : Rising ps
