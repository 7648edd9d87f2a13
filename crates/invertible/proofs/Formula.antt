-- The polynomials of a record as expressions of the ring solver, in the letters of crate expressions.
--   x, y, a0, c i, n i, F  the letters and the equation of the curve, passed on
--   forms κ                the polynomials of a record
use mathlib.Core.List.{List}
use Rattle.algebra.proofs.Norm.{E, E-ops}
use Rattle.divisor.specs.Kind.{Kind}
use Rattle.divisor.proofs.Over.{polynomials_over}
pub use Rattle.expressions.proofs.Letters.{x, y, a0, c, n, F}

abbrev pub forms : Kind → List E
forms κ = polynomials_over E-ops x y κ n
