-- What the functions below points_of ensure; they return how many pairs there are.
--   on_stages c d out          what points_on checks: the divisor, and then the slice of the result
--   Written ss c d out n out'      the stages ss are passed, and the n points of d are written
--   PointsBy ss c d out r out'     that for r; or r is the first cause, and the slice is left
--   PointsOn c d out r out'    points_on
--   PointsFound c d out r out'     points_found: the same, by all that points_of checks
use Rattle.std.specs.Prelude.{◌≡◌, List, ◌++◌, ℕ, ◌*◌, length, drop, Result, Ok, Err}
use Rattle.refusal.specs.Refusal.{number_of}
use Rattle.refusal.specs.declared.Refusal.{Refusal}
use Rattle.record.specs.Cause.{Stage, FirstCause, Passes}
use Rattle.calls.specs.Answer.{buffer}
use Rattle.calls.specs.Call.{divisor_of}
use Rattle.point.specs.Point.{Pair, IsPoints}
use Rattle.point.specs.PointCall.{coordinates, points_room, points_stages}

abbrev pub on_stages : (c d out : List ℕ) → List Stage
on_stages c d out = divisor_of c d ++ buffer points_room out

pub record Written (ss : List Stage) (c d out : List ℕ) (n : ℕ) (out' : List ℕ) : Type 0 where
  pub passed : Passes ss
  pub pairs : List Pair
  pub points : IsPoints c d pairs
  pub many : n ≡ length pairs
  pub is : out' ≡ coordinates pairs ++ drop (2 * length pairs) out

abbrev pub PointsBy : List Stage → (c d out : List ℕ) → Result ℕ Refusal → (out' : List ℕ) → Type 0
PointsBy ss c d out (Ok n) out' = Written ss c d out n out'
PointsBy ss c d out (Err e) out' = FirstCause ss (number_of e) × (out' ≡ out)

abbrev pub PointsOn : (c d out : List ℕ) → Result ℕ Refusal → (out' : List ℕ) → Type 0
PointsOn c d out = PointsBy (on_stages c d out) c d out

abbrev pub PointsFound : (c d out : List ℕ) → Result ℕ Refusal → (out' : List ℕ) → Type 0
PointsFound c d out = PointsBy (points_stages c d out) c d out
