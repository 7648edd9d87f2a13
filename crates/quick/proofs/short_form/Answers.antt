-- `quick::short_form` meets its contract.
use native.Mathlib.Omega.{arith}
use Rattle.algebra.proofs.Answers.{answer-yes, answer-no}
use Rattle.quick.proofs.short_form.Goals as goal

pub returns-then-g-le3 : goal.returns-then-g-le3
returns-then-g-le3 c = answer-no (λ s. omega (arith, s.large, c.if-g-le3.true))

pub returns-then-g-ne0 : goal.returns-then-g-ne0
returns-then-g-ne0 c = answer-no (λ s. c.if-g-ne0.true s.at_8)

pub returns-then-g-ne0-2 : goal.returns-then-g-ne0-2
returns-then-g-ne0-2 c = answer-no (λ s. c.if-g-ne0-2.true s.at_9)

pub returns-then-g-ne0-3 : goal.returns-then-g-ne0-3
returns-then-g-ne0-3 c = answer-no (λ s. c.if-g-ne0-3.true s.at_11)

pub returns : goal.returns
returns c = answer-yes (record { large = omega (arith, c.if-g-le3.false); at_8 = c.if-g-ne0.false; at_9 = c.if-g-ne0-2.false; at_11 = c.if-g-ne0-3.false })
