-- How many pairs there are, or minus the number of the cause.
use mathlib.Core.Path.{◌∙◌}
use native.Mathlib.Omega.{arith}
use Rattle.reply.proofs.Number.{kept, pos_number}
use Rattle.points.proofs.Found.{points_small, of-written, of-refused}
use Rattle.points.proofs.points_of.Goals as goal

pub overflow_cast-result : goal.overflow_cast-result
overflow_cast-result c = omega (arith, points_small c.args.curve.now c.args.divisor.now c.args.out.now c.in-Ok.ensures)

pub returns-in-Ok : goal.returns-in-Ok
returns-in-Ok c =
    let k = c.args.curve.now in
    let d = c.args.divisor.now in
    let out = c.args.out.now in
    of-written k d out c.in-Ok.ensures (pos_number _ (omega (arith, points_small k d out c.in-Ok.ensures)))

pub returns-in-Err : goal.returns-in-Err
returns-in-Err c =
    of-refused c.args.curve.now c.args.divisor.now c.args.out.now _ c.in-Err.ensures (kept c.refusal.result c.refusal.type_inv ∙ c.refusal.ensures)
