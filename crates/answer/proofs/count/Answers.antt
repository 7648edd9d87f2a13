-- A refusal is returned.
use Rattle.std.proofs.Common.{rules}
use mathlib.Core.Path.{◌∙◌}
use Rattle.calls.specs.Answer.{refused}
use Rattle.calls.specs.Call.{list_of}
use Rattle.classes.proofs.Made.{done-cause}
use Rattle.reply.proofs.Number.{kept}
use Rattle.answer.proofs.count.Goals as goal

pub returns-in-Err : goal.returns-in-Err
returns-in-Err c =
    refused _ (done-cause (list_of c.args.curve.now c.args.list.now) c.in-Err.cause (λ g o p. search rules) c.in-Err.ensures)
    (kept c.refusal.result c.refusal.type_inv ∙ c.refusal.ensures)
