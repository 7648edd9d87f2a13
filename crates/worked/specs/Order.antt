-- Document 02, 2026-06, "Points in a fixed order": two examples, for the definitions. In the form of the request's
-- vectors, with the curves and larger in bytes:
--   points E larger 6 = 3 0,4,0,4,1,2
--   points G 10001600000000000200000004000000 6 = 2 0,1,0,2
--   three_points       (0, 4) twice, then (1, 2): the first coordinate rises, and the two copies stand together
--   G                  the curve y³ + x⁴ + 6 for p = 7
--   above_zero         22: 0 2 4, that is x and y² + 4y + 2
--   two_above          (0, 1), then (0, 2): the first coordinate is the same, the second rises
--   Examples           2P + (1, 2) on E has the points three_points, above_zero on G has two_above, and the call writes them so
use Rattle.std.specs.Prelude.{List, [], ◌∷◌, ℕ}
use Rattle.divisor.specs.Kind.{k22}
use Rattle.point.specs.Point.{Pair}
use Rattle.worked.specs.Table.{curve, divisor, E}
use Rattle.worked.specs.Points.{Has}
use Rattle.worked.specs.Parts.{larger}

abbrev pub three_points : List Pair
three_points = (0, 4) ∷ (0, 4) ∷ (1, 2) ∷ []

abbrev pub G : List ℕ
G = curve 7 6 0 0

abbrev pub above_zero : List ℕ
above_zero = divisor k22 (0 ∷ 2 ∷ 4 ∷ [])

abbrev pub two_above : List Pair
two_above = (0, 1) ∷ (0, 2) ∷ []

abbrev pub Examples : Type 0
Examples = Has E larger three_points × Has G above_zero two_above
