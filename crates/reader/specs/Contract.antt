-- What the functions on records require and ensure.
--   equation_stages e      what is checked of a curve behind its form, of its equation by value
--   NonsingularAsked e     is_nonsingular: the coefficient of x⁴ is 1, p is a prime, and the other coefficients are below it
--   WriteAsked, WriteAnswer    write_divisor: the record of r at the start of the buffer, the rest as it was
use Rattle.std.specs.Prelude.{◌≡◌, List, ◌++◌, ℕ, ◌<◌, ◌≤◌, length, drop}
use Rattle.prime.specs.Prime.{Prime}
use Rattle.equation.specs.Equation.{curve_of}
use Rattle.equation.specs.declared.Equation.{Equation}
use Rattle.divisor.specs.Kind.{size}
use Rattle.basis.specs.declared.Divisor.{Divisor}
use Rattle.record.specs.Cause.{Stage}
use Rattle.record.specs.Curve.{curve_rest}
use Rattle.record.specs.Value.{bytes_of}
use Rattle.checks.specs.Contract.{coefficient_of}

abbrev pub equation_stages : Equation → List Stage
equation_stages e = curve_rest e.p (curve_of e) (coefficient_of e)

pub record NonsingularAsked (e : Equation) : Type 0 where
  pub one : e.a0 ≡ 1
  pub prime : Prime e.p
  pub below : (i : ℕ) → i < 9 → coefficient_of e i < e.p

pub record WriteAsked (r : Divisor) (out : List ℕ) : Type 0 where
  pub room : size r.kind ≤ length out

pub record WriteAnswer (r : Divisor) (out out' : List ℕ) (n : ℕ) : Type 0 where
  pub long : n ≡ size r.kind
  pub bytes : out' ≡ bytes_of r.kind r ++ drop (size r.kind) out
