-- `eliminants::in_y` meets its contract: the arm taken is that of the divisor's kind.
use Rattle.field.proofs.Invert.{prime-large}
use Rattle.divisor.specs.Kind.{k0, k11, k21, k22}
use Rattle.eliminants.proofs.Formulas.{one_of, line_of, square-of, in_y_21_of}
use Rattle.eliminants.proofs.Chosen.{chosen-y, chosen_31}
use Rattle.eliminants.proofs.in_y.Goals as goal

pub returns-in-Zero : goal.returns-in-Zero
returns-in-Zero c = chosen-y k0 (one_of (prime-large _ c.requires.asked.prime)) c.in-Zero.is

pub returns-in-K11 : goal.returns-in-K11
returns-in-K11 c =
    let asked = c.requires.asked in
    chosen-y k11 (line_of (prime-large _ asked.prime) _ (asked.shaped.below 1)) c.in-K11.is

pub mul_add-requires : goal.mul_add-requires
mul_add-requires c =
    let asked = c.requires in
    let below = asked.asked.shaped.below in
    record { below_1 = below 1; below_2 = asked.below; below_3 = below 0 }

pub returns-in-K21 : goal.returns-in-K21
returns-in-K21 c =
    let asked = c.requires.asked in
    chosen-y k21 (in_y_21_of (prime-large _ asked.prime) _ _ _ c.mul_add.ensures) c.in-K21.is

pub returns-in-K22 : goal.returns-in-K22
returns-in-K22 c =
    let asked = c.requires.asked in
    chosen-y k22 (square-of (prime-large _ asked.prime) _ _ (asked.shaped.below 1) (asked.shaped.below 2)) c.in-K22.is

pub returns-in-K31 : goal.returns-in-K31
returns-in-K31 c = chosen_31 c.in_y_31.ensures c.in-K31.is
