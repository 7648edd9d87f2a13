-- `equation::derivative_x` meets its contract, by `derivative_x-of` of proofs/Vectors.
use Rattle.equation.proofs.Vectors.{derivative_x-of}
use Rattle.equation.proofs.derivative_x.Goals as goal

pub returns : goal.returns
returns c =
    derivative_x-of _ c.requires c.twice-v3.ensures
    c.thrice-v6.ensures c.twice-v7.ensures c.twice.ensures c.twice-v9.ensures
