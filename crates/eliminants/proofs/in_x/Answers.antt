-- `eliminants::in_x` meets its contract: the arm taken is that of the divisor's kind.
use mathlib.Core.Logic.{inl, inr}
use Rattle.field.proofs.Invert.{prime-large}
use Rattle.divisor.specs.Kind.{k0, k11, k21, k22, k31}
use Rattle.eliminants.proofs.Formulas.{one_of, line_of, square-of}
use Rattle.eliminants.proofs.Chosen.{chosen-x}
use Rattle.eliminants.proofs.in_x.Goals as goal

pub returns-in-Zero : goal.returns-in-Zero
returns-in-Zero c = chosen-x k0 (one_of (prime-large _ c.requires.prime)) c.in-Zero.is

pub returns-in-K11 : goal.returns-in-K11
returns-in-K11 c =
    let line = line_of (prime-large _ c.requires.prime) _ (c.requires.shaped.below 0) in
    elim c.in-K11.is [
      | inl e ↦ chosen-x k11 line e
      | inr e ↦ chosen-x k22 line e
    ]

pub returns-in-K21 : goal.returns-in-K21
returns-in-K21 c =
    let asked = c.requires in
    chosen-x k21 (square-of (prime-large _ asked.prime) _ _ (asked.shaped.below 2) (asked.shaped.below 3)) c.in-K21.is

pub returns-in-K31 : goal.returns-in-K31
returns-in-K31 c = chosen-x k31 c.in_x_31.ensures c.in-K31.is
