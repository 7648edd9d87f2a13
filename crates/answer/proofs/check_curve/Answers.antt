-- A refusal is returned.
use mathlib.Core.Path.{◌∙◌}
use Rattle.calls.specs.Answer.{refused}
use Rattle.reply.proofs.Number.{kept}
use Rattle.answer.proofs.check_curve.Goals as goal

pub returns-in-Err : goal.returns-in-Err
returns-in-Err c = refused _ c.in-Err.ensures (kept c.refusal.result c.refusal.type_inv ∙ c.refusal.ensures)
