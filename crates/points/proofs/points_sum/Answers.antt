-- The curve, the sum of the points on its ground, and the buffer.
use Rattle.std.proofs.Common.{rules}
use mathlib.Core.List.{◌∷◌, ◌++◌, map}
use Rattle.record.specs.Curve.{curve_stages}
use Rattle.calls.specs.Class.{IsListSum}
use Rattle.classes.specs.Found.{Curved}
use Rattle.classes.proofs.Made.{done-found}
use Rattle.point.specs.Point.{point_record}
use Rattle.point.specs.PointCall.{pairs, numbers_stage, pairs_stages}
use Rattle.reply.proofs.Found.{writes_found}
use Rattle.reply.proofs.Number.{kept}
use Rattle.points.proofs.points_sum.Goals as goal

pub on_curve-requires : goal.on_curve-requires
on_curve-requires c = λ g o.
    let curved : Curved g = (c.args.curve.now, o) in
    search rules

pub returns : goal.returns
returns c =
    let k = c.args.curve.now in
    let ns = c.args.points.now in
    rw (kept c.written.result c.written.type_inv)
    (writes_found k (curve_stages k ++ numbers_stage ns ∷ pairs_stages k (pairs ns)) (IsListSum k (map (point_record k) (pairs ns))) _
    (done-found k (numbers_stage ns ∷ pairs_stages k (pairs ns)) (IsListSum k (map (point_record k) (pairs ns))) _
    (λ g o p. search (rules, o)) c.on_curve.ensures)
    c.written.ensures)
