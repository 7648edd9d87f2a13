-- Document 02, 2026-04, "Common part of two divisors": "on E, 2P + (1, 2) and P", for the definitions. The request's vectors, with E, larger
-- and total in bytes:
--   gcd E larger 0c000b000000000001000000 40 = 12 0c000b000000000001000000
--   lcm E larger 0c000b000000000001000000 40 = 40 larger
--   road E larger 0c000b000000000001000000 40 = 40 total
--   larger             31: 3 0 3 4 1 4 3 0 4, that is x² + 3y + 3, xy + 4y + x + 4 and y² + 4y + 3
--   total              31: 0 4 0 0 3 0 1 2 4, which is (1, 2) − P too
--   Only Is Call w     Is holds of no record but w; the call, on a buffer of the least length or more, returns the length of w and writes w,
--                      and does nothing else
--   Results Is Call w  Is holds of w, and Only of it
--   Examples           larger is 2P + (1, 2): its ideal is the product of theirs; P is the common part of larger and P, larger their common
--                      multiple, and total their sum, which is what the call by the second road returns too
use Rattle.std.specs.Prelude.{◌≡◌, List, [], ◌∷◌, ◌++◌, ℕ, ◌≤◌, length, drop, ℤ, pos}
use Rattle.ideal.specs.Ideal.{Product, SameIdeal}
use Rattle.divisor.specs.Kind.{k31}
use Rattle.calls.specs.Class.{Ring, Ideal, IsSum, IsCommonPart, IsCommonMultiple}
use Rattle.calls.specs.Call.{Sum, CommonPart, CommonMultiple, room}
use Rattle.worked.specs.Table.{divisor, WritesJust, E, one_two, P}
use Rattle.worked.specs.Points.{double_point}

abbrev pub larger : List ℕ
larger = divisor k31 (3 ∷ 0 ∷ 3 ∷ 4 ∷ 1 ∷ 4 ∷ 3 ∷ 0 ∷ 4 ∷ [])

abbrev pub total : List ℕ
total = divisor k31 (0 ∷ 4 ∷ 0 ∷ 0 ∷ 3 ∷ 0 ∷ 1 ∷ 2 ∷ 4 ∷ [])

abbrev pub Only : (List ℕ → Type 0) → (List ℕ → ℤ → List ℕ → Type 0) → List ℕ → Type 0
Only Is Call w =
    ((v : List ℕ) → Is v → v ≡ w)
    × ((out : List ℕ) → room ≤ length out → Call out (pos (length w)) (w ++ drop (length w) out))
    × WritesJust room Call w

abbrev pub Results : (List ℕ → Type 0) → (List ℕ → ℤ → List ℕ → Type 0) → List ℕ → Type 0
Results Is Call w = Is w × Only Is Call w

abbrev pub Examples : Type 0
Examples =
    SameIdeal (Ring E) (Ideal E larger) (Product (Ring E) (Ideal E double_point) (Ideal E one_two))
    × Results (IsCommonPart E larger P) (CommonPart E larger P) P
    × Results (IsCommonMultiple E larger P) (CommonMultiple E larger P) larger
    × Results (IsSum E larger P) (Sum E larger P) total
