-- The divisor is read on the curve, and its short record is written with the curve's modulus; a short buffer and a refusal return.
use mathlib.Core.Path.{refl, ◌∙◌}
use native.Mathlib.Omega.{arith}
use Rattle.std.proofs.Common.{rules}
use Rattle.calls.proofs.Answers.{writes_refused, writes_short}
use Rattle.calls.specs.Call.{room}
use Rattle.classes.specs.Made.{one_stages}
use Rattle.classes.proofs.Made.{one-passes}
use Rattle.reply.proofs.Number.{kept}
use Rattle.short_calls.proofs.Found.{write_asked, cast_fits, short_writes}
use Rattle.short_calls.proofs.shorten.Goals as goal

pub returns-in-Ok : goal.returns-in-Ok
returns-in-Ok c =
    writes_short {least = room} (one_stages c.args.curve.now c.args.divisor.now) (one-passes c.in-Ok.ensures) (omega arith)
    (kept c.refusal.result c.refusal.type_inv ∙ c.refusal.ensures) refl

pub write_short-requires : goal.write_short-requires
write_short-requires c =
    write_asked c.args.curve.now c.args.divisor.now (λ g x t p. search rules) c.in-Ok.ensures (omega arith)

pub overflow_cast-result : goal.overflow_cast-result
overflow_cast-result c =
    cast_fits c.args.curve.now c.args.divisor.now (λ g x t p. search rules) c.in-Ok.ensures c.write_short.ensures

pub returns-in-Ok-2 : goal.returns-in-Ok-2
returns-in-Ok-2 c =
    short_writes c.args.curve.now c.args.divisor.now (λ g x t p. search rules) c.in-Ok.ensures (omega arith) c.write_short.ensures

pub returns-in-Err : goal.returns-in-Err
returns-in-Err c =
    writes_refused (one_stages c.args.curve.now c.args.divisor.now) _ c.in-Err.ensures
    (kept c.refusal-in-Err.result c.refusal-in-Err.type_inv ∙ c.refusal-in-Err.ensures) refl
