-- What read_pair ensures.
--   PairRead c q r         r is the point q by value; or the first cause for which the pair q is refused
use Rattle.std.specs.Prelude.{List, ℕ, Result, Ok, Err}
use Rattle.basis.specs.declared.Divisor.{Divisor}
use Rattle.refusal.specs.Refusal.{number_of}
use Rattle.refusal.specs.declared.Refusal.{Refusal}
use Rattle.record.specs.Cause.{FirstCause}
use Rattle.reader.specs.Reading.{GivenOn}
use Rattle.point.specs.Point.{Pair, Point, point_record}
use Rattle.point.specs.PointCall.{pair_stages}

abbrev pub PairRead : (c : List ℕ) → Pair → Result Divisor Refusal → Type 0
PairRead c q (Ok x) = Point c q × GivenOn c (point_record c q) x
PairRead c q (Err e) = FirstCause (pair_stages c q) (number_of e)
