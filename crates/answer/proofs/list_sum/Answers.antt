-- The sum that is found on the ground of the curve is written.
use Rattle.std.proofs.Common.{rules}
use mathlib.Core.List.{◌++◌}
use Rattle.record.specs.Curve.{curve_stages}
use Rattle.calls.specs.Call.{list_of}
use Rattle.lists.specs.Totals.{SumOfList}
use Rattle.classes.proofs.Made.{done-found}
use Rattle.reply.proofs.Found.{writes_found}
use Rattle.reply.proofs.Number.{kept}
use Rattle.answer.proofs.list_sum.Goals as goal

pub returns : goal.returns
returns c =
    let k = c.args.curve.now in
    let s = c.args.list.now in
    rw (kept c.written.result c.written.type_inv)
    (writes_found k (curve_stages k ++ list_of k s) (SumOfList k s) _
    (done-found k (list_of k s) (SumOfList k s) _ (λ g o p. search rules) c.on_curve.ensures) c.written.ensures)
