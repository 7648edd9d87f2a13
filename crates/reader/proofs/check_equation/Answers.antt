-- Each return is at the first of the three stages that is not passed.
use mathlib.Core.Path.{refl}
use mathlib.Core.Logic.{inl, inr}
use Rattle.reader.proofs.check_equation.Goals as goal

pub is_nonsingular-requires : goal.is_nonsingular-requires
is_nonsingular-requires c =
    record {
      one = c.requires;
      prime = (c.is_modulus.ensures.holds c.if-not-is_modulus.false).0;
      below = c.coefficients_below.ensures.holds c.if-not-coefficients_below.false;
    }

pub returns-then-not-is_nonsingular : goal.returns-then-not-is_nonsingular
returns-then-not-is_nonsingular c =
    let modulus = c.is_modulus.ensures.holds c.if-not-is_modulus.false in
    let below = c.coefficients_below.ensures.holds c.if-not-coefficients_below.false in
    inr (modulus, inr (below, inl (c.is_nonsingular.ensures.fails c.if-not-is_nonsingular.true, refl)))

pub returns : goal.returns
returns c =
    let modulus = c.is_modulus.ensures.holds c.if-not-is_modulus.false in
    let below = c.coefficients_below.ensures.holds c.if-not-coefficients_below.false in
    (modulus, (below, (c.is_nonsingular.ensures.holds c.if-not-is_nonsingular.false, tt)))
