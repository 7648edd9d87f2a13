-- The first divisor is read, and then the second one.
use mathlib.Core.Logic.{inl, inr}
use Rattle.refusal.proofs.Passed.{passed_on}
use Rattle.record.specs.Divisor.{divisor_stages}
use Rattle.record.proofs.Cause.{first_append}
use Rattle.reader.proofs.read_two.Goals as goal

pub returns-in_err-x : goal.returns-in_err-x
returns-in_err-x c G =
    let C = G.ready.setting.curve in
    rw (passed_on _ c.from_residual.ensures.1)
    ((first_append (divisor_stages _ C c.args.a.now) (divisor_stages _ C c.args.b.now) _).1 (inl (c.in_err-x.ensures G)))

pub returns-in_err-y : goal.returns-in_err-y
returns-in_err-y c G =
    let C = G.ready.setting.curve in
    rw (passed_on _ c.from_residual-in_err-y.ensures.1)
    ((first_append (divisor_stages _ C c.args.a.now) (divisor_stages _ C c.args.b.now) _).1
    (inr ((c.in_ok-x.ensures G).accepted, c.in_err-y.ensures G)))
