-- The curve is read and then the divisor, and what is made is made of its value.
use mathlib.Core.Logic.{inr}
use Rattle.refusal.proofs.Passed.{passed_on}
use Rattle.record.specs.Curve.{curve_stages}
use Rattle.record.proofs.Cause.{first_append}
use Rattle.reader.proofs.Ground.{ground_asked, on, grounded_on}
use Rattle.calls.specs.Call.{divisor_of}
use Rattle.classes.proofs.Read.{read_given, read_refused}
use Rattle.classes.proofs.of_one.Goals as goal

pub of-g-requires : goal.of-g-requires
of-g-requires g c =
    let read = c.in_ok-read_curve.ensures in
    ground_asked c.args.curve.now read.0 _ read.1

pub read_divisor-requires : goal.read_divisor-requires
read_divisor-requires g c =
    let read = c.in_ok-read_curve.ensures in
    grounded_on (on c.args.curve.now read.0 _ read.1 _ c.of-g.ensures)

pub returns-in_err-x : goal.returns-in_err-x
returns-in_err-x g c =
    let k = c.args.curve.now in
    let read = c.in_ok-read_curve.ensures in
    let o = on k read.0 _ read.1 _ c.of-g.ensures in
    let e = c.in_err-x.field-0.0 in
    rw (passed_on _ c.from_residual-in_err-x.ensures.1)
    ((first_append (curve_stages k) (divisor_of k c.args.a.now) _).1 (inr (read.0, read_refused o c.args.a.now e c.in_err-x.ensures)))

pub make-requires : goal.make-requires
make-requires g c =
    let k = c.args.curve.now in
    let read = c.in_ok-read_curve.ensures in
    let o = on k read.0 _ read.1 _ c.of-g.ensures in
    c.requires _ _ o (read_given o c.args.a.now c.in_ok-x.x c.in_ok-x.ensures)

pub returns : goal.returns
returns g c =
    let k = c.args.curve.now in
    let read = c.in_ok-read_curve.ensures in
    let o = on k read.0 _ read.1 _ c.of-g.ensures in
    record { ground = _; value = c.in_ok-x.x; on = o; given = read_given o c.args.a.now c.in_ok-x.x c.in_ok-x.ensures; made = c.make.ensures }
