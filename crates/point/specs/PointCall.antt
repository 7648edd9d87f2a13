-- The two calls on points. c is the curve's bytes, ns the numbers of the points, d a divisor's bytes, out the lent slice of the result.
--   pairs_limit, scan_limit        the most pairs of the first call, the largest modulus of the second
--   pairs ns, coordinates ps       the pairs of a list of numbers, and the numbers of a list of pairs
--   numbers_stage ns               14 for the count of numbers
--   pair_stages, pairs_stages      what is checked of one pair, and of each pair from first to last: 8, 9
--   PointsSum c ns out r out'      points_sum
--   points_room                    the least length of the slice for points
--   points_stages c d out          what points_of checks
--   PointsOf c d out r out'        points_of
use Rattle.std.specs.Prelude.{◌≡◌, List, [], ◌∷◌, ◌++◌, map, ℕ, ◌*◌, ◌%◌, ◌≤◌, length, drop, ℤ, pos}
use Rattle.record.specs.Cause.{Stage, must, FirstCause, Passes}
use Rattle.record.specs.Curve.{modulus, curve_stages}
use Rattle.calls.specs.Answer.{minus, buffer, Writes}
use Rattle.calls.specs.Class.{IsListSum}
use Rattle.calls.specs.Call.{room, divisor_of}
use Rattle.point.specs.Point.{Pair, InField, OnCurve, point_record, IsPoints}

-- "up to 4,096 pairs"
abbrev pub pairs_limit : ℕ
pairs_limit = 4096

-- "The second call needs p at most 65521."
abbrev pub scan_limit : ℕ
scan_limit = 65521

abbrev pub pairs : List ℕ → List Pair
pairs [] = []
pairs (a ∷ []) = []
pairs (a ∷ b ∷ ns) = (a, b) ∷ pairs ns

abbrev pub coordinates : List Pair → List ℕ
coordinates [] = []
coordinates ((a, b) ∷ ps) = a ∷ b ∷ coordinates ps

-- "a coordinate not below p is refused with 8, then a pair off the curve with 9"
abbrev pub pair_stages : (c : List ℕ) → Pair → List Stage
pair_stages c q = must 8 (InField c q) ∷ must 9 (OnCurve c q) ∷ []

-- "pair by pair"
abbrev pub pairs_stages : (c : List ℕ) → List Pair → List Stage
pairs_stages c [] = []
pairs_stages c (q ∷ qs) = pair_stages c q ++ pairs_stages c qs

-- "an odd count of numbers or more than 4,096 pairs for the first"
abbrev pub numbers_stage : List ℕ → Stage
numbers_stage ns = must 14 ((length ns % 2 ≡ 0) × (length ns ≤ 2 * pairs_limit))

-- "gives the sum of their kind 11 records, the zero class for no pairs"; 14 "after the curve's checks"
abbrev pub PointsSum : (c ns out : List ℕ) → ℤ → List ℕ → Type 0
PointsSum c ns out =
    Writes room (curve_stages c ++ numbers_stage ns ∷ pairs_stages c (pairs ns)) (IsListSum c (map (point_record c) (pairs ns))) out

-- "a lent slice of six 32-bit numbers or more; a shorter one is refused with 10"
abbrev pub points_room : ℕ
points_room = 6

-- 14: "p above 65521 for the second call", "after the curve's checks"
abbrev pub points_stages : (c d out : List ℕ) → List Stage
points_stages c d out = curve_stages c ++ must 14 (modulus c ≤ scan_limit) ∷ divisor_of c d ++ buffer points_room out

-- "It returns the number of pairs, and numbers after them are untouched."
pub data PointsOf (c d out : List ℕ) (r : ℤ) (out' : List ℕ) : Type 0 where
  refused : (n : ℕ) → FirstCause (points_stages c d out) n → r ≡ minus n → out' ≡ out → PointsOf c d out r out'
  written : (ps : List Pair) → Passes (points_stages c d out) → IsPoints c d ps → r ≡ pos (length ps)
      → out' ≡ coordinates ps ++ drop (2 * length ps) out → PointsOf c d out r out'
