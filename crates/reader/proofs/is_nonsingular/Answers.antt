-- What the test of equation requires follows from the coefficient of x⁴, which is 1, and the bounds of the others.
use Rattle.reader.proofs.CurveReader.{one-nonzero, below-coefficients}
use Rattle.reader.proofs.is_nonsingular.Goals as goal

pub cube-cube-requires : goal.cube-cube-requires
cube-cube-requires c = below-coefficients c.args.e c.requires.one c.requires.prime c.requires.below

pub nonsingular-requires : goal.nonsingular-requires
nonsingular-requires c =
    let e = c.args.e in
    let asked = c.requires in
    record {
      prime = asked.prime;
      coefficients = below-coefficients e asked.one asked.prime asked.below;
      nonzero = one-nonzero e asked.one asked.prime;
      is_cube = c.cube-cube.ensures;
    }

pub returns : goal.returns
returns c = c.nonsingular.ensures
