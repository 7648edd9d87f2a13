-- Document 02, 2026-02, "From points to a class and back": two examples on E, for the definitions. The request's vectors, with E in bytes:
--   points E 1400150001000000000000000000000000000000 6 = 2 0,4,0,4
--   psum E 1,2,2,2 40 = 20 1400150003000000000000000200000002000000
--   double_point       21: 1 0 0 0, that is y + 1 and x²
--   double_points      (0, 4) twice
--   Has c d ps         ps are the points of the divisor d on the curve c, and points_of then returns their number and writes them
--   two_points         21: 3 0 2 2
--   Adds ps w          w and no other record is the sum of the points ps on E, and points_sum then writes w
use Rattle.std.specs.Prelude.{◌≡◌, List, [], ◌∷◌, ◌++◌, map, ℕ, ◌*◌, ◌≤◌, length, drop, ℤ, pos}
use Rattle.divisor.specs.Kind.{k21}
use Rattle.calls.specs.Class.{IsListSum}
use Rattle.calls.specs.Call.{room}
use Rattle.point.specs.Point.{Pair, point_record, IsPoints}
use Rattle.point.specs.PointCall.{coordinates, points_room, PointsSum, PointsOf}
use Rattle.worked.specs.Table.{divisor, WritesJust, E}

abbrev pub double_point : List ℕ
double_point = divisor k21 (1 ∷ 0 ∷ 0 ∷ 0 ∷ [])

abbrev pub double_points : List Pair
double_points = (0, 4) ∷ (0, 4) ∷ []

abbrev pub Has : (c d : List ℕ) → List Pair → Type 0
Has c d ps =
    IsPoints c d ps
    × ((out : List ℕ) (r : ℤ) (out' : List ℕ) → points_room ≤ length out → PointsOf c d out r out'
    → (r ≡ pos (length ps)) × (out' ≡ coordinates ps ++ drop (2 * length ps) out))

abbrev pub two_points : List ℕ
two_points = divisor k21 (3 ∷ 0 ∷ 2 ∷ 2 ∷ [])

abbrev pub Adds : List Pair → (w : List ℕ) → Type 0
Adds ps w =
    IsListSum E (map (point_record E) ps) w
    × ((v : List ℕ) → IsListSum E (map (point_record E) ps) v → v ≡ w)
    × WritesJust room (PointsSum E (coordinates ps)) w
