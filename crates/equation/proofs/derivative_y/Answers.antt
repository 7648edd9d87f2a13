-- `equation::derivative_y` meets its contract, by `derivative_y-of` of proofs/Vectors.
use Rattle.equation.proofs.Vectors.{derivative_y-of}
use Rattle.equation.proofs.derivative_y.Goals as goal

pub returns : goal.returns
returns c = derivative_y-of _ c.requires.coefficients c.twice-v4.ensures c.twice-v7.ensures c.thrice-v8.ensures
