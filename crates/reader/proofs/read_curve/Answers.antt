-- The form, then the equation by value.
use mathlib.Core.Logic.{inr}
use Rattle.refusal.proofs.Passed.{passed_on}
use Rattle.std.specs.Prelude.{Ok, Err}
use Rattle.record.specs.Curve.{curve_form}
use Rattle.record.proofs.Cause.{first_append, passes_append}
use Rattle.reader.proofs.CurveReader.{rest_of, equation_checked}
use Rattle.reader.proofs.read_curve.Goals as goal

pub returns-in_err-check_equation : goal.returns-in_err-check_equation
returns-in_err-check_equation c =
    let s = c.args.s.now in
    let e = c.in_err-check_equation.field-0.0 in
    let k = equation_checked s c.equation-e.result (Err e) c.equation-e.ensures c.in_err-check_equation.ensures in
    rw (passed_on _ c.from_residual-in_err-check_equation.ensures.1)
    ((first_append (curve_form s) (rest_of s) _).1 (inr (c.in_ok-curve_form.ensures, k)))

pub returns : goal.returns
returns c =
    let s = c.args.s.now in
    let k = equation_checked s c.equation-e.result (Ok tt) c.equation-e.ensures c.in_ok-check_equation.ensures in
    ((passes_append (curve_form s) (rest_of s)).1 (c.in_ok-curve_form.ensures, k), c.equation-e.ensures)
