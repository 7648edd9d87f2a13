-- The curve is read, and the work is done on its ground.
use Rattle.refusal.proofs.Passed.{passed_on}
use Rattle.reader.specs.Reading.{refused, done}
use Rattle.reader.proofs.Ground.{ground_asked, on}
use Rattle.reader.proofs.on_curve.Goals as goal

pub returns-in_err-e : goal.returns-in_err-e
returns-in_err-e g c = refused c.in_err-e.field-0.0 c.in_err-e.ensures (passed_on _ c.from_residual.ensures.1)

pub of-requires : goal.of-requires
of-requires g c = ground_asked c.args.curve.now c.in_ok-e.ensures.0 _ c.in_ok-e.ensures.1

pub returns : goal.returns
returns g c =
    let read = c.in_ok-e.ensures in
    done _ (on c.args.curve.now read.0 _ read.1 _ c.of.ensures) c.work.ensures
