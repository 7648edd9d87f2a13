-- `equation::cube` meets its contract, by `cube-of` of proofs/Vectors.
use Rattle.equation.proofs.Vectors.{cube-of}
use Rattle.equation.proofs.cube.Goals as goal

pub returns : goal.returns
returns c =
    cube-of _ c.requires
    c.neg-v0.ensures
    c.neg-v3.ensures
    c.neg-v4.ensures c.neg-v6.ensures
    c.neg-v7.ensures c.neg-v8.ensures
    c.neg-v9.ensures c.neg-v10.ensures c.neg-v11.ensures c.neg-v12.ensures
