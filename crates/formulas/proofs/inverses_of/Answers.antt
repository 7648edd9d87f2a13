-- `formulas::inverses_of` meets its contract: one inversion gives the inverse of z and z²/y.
use Rattle.formulas.proofs.Inverted.{inverted}
use Rattle.formulas.proofs.inverses_of.Goals as goal

pub returns : goal.returns
returns c = inverted c.requires.prime c.inverse_by-w.ensures c.mul-one.ensures c.mul-two.ensures
