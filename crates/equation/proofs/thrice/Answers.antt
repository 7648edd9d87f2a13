-- `equation::thrice` meets its contract, by `thrice-of` of proofs/Vectors.
use Rattle.equation.proofs.Vectors.{thrice-of}
use Rattle.equation.proofs.thrice.Goals as goal

pub returns : goal.returns
returns c = thrice-of c.args.a c.twice.ensures c.add.ensures
