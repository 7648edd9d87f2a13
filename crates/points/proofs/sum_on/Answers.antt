-- The count of numbers first, then the pairs.
use mathlib.Core.List.{map}
use Rattle.calls.specs.Class.{IsListSum}
use Rattle.point.specs.Point.{point_record}
use Rattle.point.specs.PointCall.{pairs}
use Rattle.points.proofs.Walk.{count-right}
use Rattle.points.proofs.sum_on.Goals as goal

pub returns : goal.returns
returns c =
    let ns = c.args.points.now in
    count-right ns c.if-points-ne0.false c.if-points-gt-NUMBERS.false (λ k. IsListSum k (map (point_record k) (pairs ns))) c.total.result c.total.ensures
