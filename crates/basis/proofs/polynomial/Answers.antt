-- `basis::polynomial` meets its contract: the five stores are the list's.
use mathlib.Core.Path.{refl}
use Rattle.basis.specs.Contract.{coefficients}
use Rattle.basis.proofs.polynomial.Goals as goal

pub returns : goal.returns
unfolding coefficients
returns c = refl
