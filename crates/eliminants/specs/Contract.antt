-- What the functions on the eliminants of a divisor by value require and ensure.
--   EliminantAsked p r         p is a prime, and the divisor r has a kind and numbers below p
--   EliminantAtAsked p r a     … and a is below p
--   Coefficients p c           the coefficients of c are below p
--   InX p r c                  c is the polynomial in x that lies in the ideal of r
--   InY p r a c                c is a polynomial of r at x = a: the one in which y leads, or for kind 31 the first
use Rattle.std.specs.Prelude.{◌≡◌, ◌⊎◌, ℕ, ◌<◌}
use Rattle.algebra.specs.Ring.{CommRing}
use Rattle.prime.specs.Prime.{Prime}
use Rattle.field.specs.Residue.{Z, el}
use Rattle.divisor.specs.Kind.{Kind, k31}
use Rattle.basis.specs.declared.Divisor.{Divisor}
use Rattle.basis.specs.Divisor.{residues, Shaped}
use Rattle.roots.specs.declared.Cubic.{Cubic}
use Rattle.roots.specs.Contract.{cubic_at}
use Rattle.point.proofs.Vanish.{x-value, y-value, f-value}

pub record EliminantAsked (p : ℕ) (r : Divisor) : Type 0 where
  pub prime : Prime p
  pub kind : Kind
  pub shaped : Shaped p kind r

pub record EliminantAtAsked (p : ℕ) (r : Divisor) (a : ℕ) : Type 0 where
  pub asked : EliminantAsked p r
  pub below : a < p

pub record Coefficients (p : ℕ) (c : Cubic) : Type 0 where
  pub below_c0 : c.c0 < p
  pub below_c1 : c.c1 < p
  pub below_c2 : c.c2 < p
  pub below_c3 : c.c3 < p

pub record InX (p : ℕ) (r : Divisor) (c : Cubic) : Type 0 where
  pub below : Coefficients p c
  pub is : (κ : Kind) → Shaped p κ r → (t : (Z p).Car) → cubic_at p c t ≡ x-value (Z p) κ (residues p r) t

pub record InY (p : ℕ) (r : Divisor) (a : ℕ) (c : Cubic) : Type 0 where
  pub below : Coefficients p c
  pub is : (κ : Kind) → Shaped p κ r → (t : (Z p).Car)
      → (cubic_at p c t ≡ y-value (Z p) κ (residues p r) (el p a) t) ⊎ ((κ ≡ k31) × (cubic_at p c t ≡ f-value (Z p) (residues p r) (el p a) t))
