-- What the parts for a divisor of kind 31 ensure.
--   Stands p c f       the coefficients of c are below p, and the value of c at t is f t
--   InY31 p r a c      c is the first polynomial of r at x = a where its coefficient f2 of y is not 0, and else the one in which y leads
use Rattle.std.specs.Prelude.{◌≡◌, ℕ}
use Rattle.algebra.specs.Ring.{CommRing}
use Rattle.field.specs.Residue.{Z, el}
use Rattle.divisor.specs.Kind.{k31}
use Rattle.basis.specs.declared.Divisor.{Divisor}
use Rattle.basis.specs.Divisor.{residues}
use Rattle.roots.specs.declared.Cubic.{Cubic}
use Rattle.roots.specs.Contract.{cubic_at}
use Rattle.point.proofs.Vanish.{y-value, f-value}
use Rattle.eliminants.specs.Contract.{Coefficients}

pub record Stands (p : ℕ) (c : Cubic) (f : (Z p).Car → (Z p).Car) : Type 0 where
  pub below : Coefficients p c
  pub is : (t : (Z p).Car) → cubic_at p c t ≡ f t

pub record InY31 (p : ℕ) (r : Divisor) (a : ℕ) (c : Cubic) : Type 0 where
  pub line : ¬ (r.n2 ≡ 0) → Stands p c (f-value (Z p) (residues p r) (el p a))
  pub square : r.n2 ≡ 0 → Stands p c (y-value (Z p) k31 (residues p r) (el p a))
