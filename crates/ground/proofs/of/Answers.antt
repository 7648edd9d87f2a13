-- `of` makes the ground: −1 is the inverse of −a0, and the vector of y³ is that of the equation.
use mathlib.Core.Path.{refl}
use native.Mathlib.Omega.{arith}
use Rattle.ground.proofs.Unit.{minus_one}
use Rattle.ground.proofs.of.Goals as goal

pub of-by-requires : goal.of-by-requires
of-by-requires c = record { least = omega (arith, c.requires.one, c.requires.coefficients.below_a0); below = omega arith }

pub returns : goal.returns
returns c =
    record {
      modulus = refl;
      divides = c.of-by.ensures;
      unit_is = minus_one c.requires _ c.neg-unit.ensures;
      cube_is = c.cube-cube.ensures;
    }
