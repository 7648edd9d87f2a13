-- The curve is read, and then the short record on its ground.
use Rattle.refusal.proofs.Passed.{passed_on}
use Rattle.reader.proofs.Ground.{ground_asked, on, grounded_on}
use Rattle.short_calls.proofs.Found.{curve_refused, short_found}
use Rattle.short_calls.proofs.read_long.Goals as goal

pub returns-in_err-read_curve : goal.returns-in_err-read_curve
returns-in_err-read_curve c =
    rw (passed_on _ c.from_residual.ensures.1) (curve_refused c.args.curve.now c.args.short.now _ c.in_err-read_curve.ensures)

pub of-g-requires : goal.of-g-requires
of-g-requires c =
    let read = c.in_ok-read_curve.ensures in
    ground_asked c.args.curve.now read.0 _ read.1

pub read_short-requires : goal.read_short-requires
read_short-requires c =
    let read = c.in_ok-read_curve.ensures in
    grounded_on (on c.args.curve.now read.0 _ read.1 _ c.of-g.ensures)

pub returns : goal.returns
returns c =
    let read = c.in_ok-read_curve.ensures in
    short_found c.args.curve.now c.args.short.now _ (on c.args.curve.now read.0 _ read.1 _ c.of-g.ensures) c.read_short.ensures
