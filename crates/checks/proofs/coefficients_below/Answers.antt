-- All numbers of the list are below p exactly if each of the nine is.
use Rattle.std.proofs.Common.{rules}
use native.Mathlib.Omega.{arith}
use Rattle.algebra.specs.Answers.{Answers}
use Rattle.algebra.proofs.Answers.{answer-from}
use Rattle.checks.specs.Contract.{AllBelow, equation_numbers}
use Rattle.checks.proofs.Answer.{below_at, at-below}
use Rattle.checks.proofs.coefficients_below.Goals as goal

pub returns : goal.returns
returns c =
    let e = c.args.e in
    let all : Answers (AllBelow e.p (equation_numbers e)) c.below.result = search rules in
    answer-from
    _
    all
    (λ h i l. below_at e.p (equation_numbers e) h i (omega arith))
    (λ h. at-below e.p (equation_numbers e) (λ i l. h i (omega arith)))
