-- What was found is written where the buffer has room; a short buffer and a refusal return.
use mathlib.Core.Path.{refl, ◌∙◌}
use native.Mathlib.Omega.{arith}
use Rattle.record.specs.Curve.{curve_size}
use Rattle.record.specs.Fractions.{fractions_stages}
use Rattle.calls.proofs.Answers.{writes_refused, writes_short}
use Rattle.reply.proofs.Number.{kept}
use Rattle.fractions.proofs.Written.{wrote}
use Rattle.fractions.proofs.reduce_curve.Goals as goal

pub returns-in-Ok : goal.returns-in-Ok
returns-in-Ok c =
    writes_short {least = curve_size} (fractions_stages c.args.fractions.now c.args.p) c.in-Ok.ensures.passes (omega arith)
    (kept c.refusal.result c.refusal.type_inv ∙ c.refusal.ensures) refl

pub returns-in-Ok-2 : goal.returns-in-Ok-2
returns-in-Ok-2 c =
    let write = c.write_record-n in
    wrote c.args.fractions.now c.args.p _ c.in-Ok.ensures (omega arith) write.ensures.size write.ensures.written

pub returns-in-Err : goal.returns-in-Err
returns-in-Err c =
    writes_refused (fractions_stages c.args.fractions.now c.args.p) _ c.in-Err.ensures
    (kept c.refusal-in-Err.result c.refusal-in-Err.type_inv ∙ c.refusal-in-Err.ensures) refl
