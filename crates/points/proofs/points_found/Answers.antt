-- The curve, then the limit of p, then the points on the curve's ground.
use mathlib.Core.Path.{ap}
use native.Mathlib.Omega.{arith}
use Rattle.equation.specs.declared.Equation.{Equation}
use Rattle.refusal.proofs.Passed.{passed_on}
use Rattle.reader.proofs.Ground.{ground_asked, on}
use Rattle.points.proofs.Found.{found-curve, found-large, found-points}
use Rattle.points.proofs.points_found.Goals as goal

pub returns-in_err-e : goal.returns-in_err-e
returns-in_err-e c =
    rw (passed_on _ c.from_residual.ensures.1) (found-curve c.args.curve.now c.args.divisor.now c.args.out.now _ c.in_err-e.ensures)

pub returns-then-e-gt-SCANNED : goal.returns-then-e-gt-SCANNED
returns-then-e-gt-SCANNED c =
    let read = c.in_ok-e.ensures in
    found-large c.args.curve.now c.args.divisor.now c.args.out.now read.0
    (omega (arith, c.if-e-gt-SCANNED.true, ap (λ (x : Equation). x.p) read.1))

pub of-requires : goal.of-requires
of-requires c = ground_asked c.args.curve.now c.in_ok-e.ensures.0 _ c.in_ok-e.ensures.1

pub points_on-requires : goal.points_on-requires
points_on-requires c =
    let read = c.in_ok-e.ensures in
    (c.args.curve.now, on c.args.curve.now read.0 _ read.1 _ c.of.ensures)

pub returns : goal.returns
returns c =
    let k = c.args.curve.now in
    let read = c.in_ok-e.ensures in
    found-points k c.args.divisor.now c.args.out.now read.0
    (omega (arith, c.if-e-gt-SCANNED.false, ap (λ (x : Equation). x.p) read.1)) c.points_on.result _
    (c.points_on.ensures k (on k read.0 _ read.1 _ c.of.ensures))
