-- A divisor by value: the kind and the numbers of a record.
--   of_four κ n0 … n3  the divisor of a kind κ that has four numbers at most
--   divisor_0          the divisor of the kind 0, whose ideal is the whole ring
--   numbers_of r       the nine numbers
--   residues p r       their residues modulo p, by place
--   Shaped p κ r       r has the kind κ, and its numbers are below p
--   BasisValue p C κ r … and it is a basis on the curve C
use Rattle.std.specs.Prelude.{◌≡◌, List, [], ◌∷◌, ℕ, ◌<◌}
use Rattle.field.specs.Residue.{Z, el}
use Rattle.curve.specs.Curve.{Curve}
use Rattle.divisor.specs.Kind.{Kind, k0, IsBasis}
use Rattle.vector.specs.Vector.{at}
use Rattle.basis.specs.declared.Divisor.{Divisor}

abbrev pub of_four : (kind : Kind) (n0 n1 n2 n3 : ℕ) → Divisor
of_four kind n0 n1 n2 n3 = record { kind = kind; n0 = n0; n1 = n1; n2 = n2; n3 = n3; n4 = 0; n5 = 0; n6 = 0; n7 = 0; n8 = 0 }

abbrev pub divisor_0 : Divisor
divisor_0 = of_four k0 0 0 0 0

abbrev pub numbers_of : Divisor → List ℕ
numbers_of r = r.n0 ∷ r.n1 ∷ r.n2 ∷ r.n3 ∷ r.n4 ∷ r.n5 ∷ r.n6 ∷ r.n7 ∷ r.n8 ∷ []

abbrev pub residues : (p : ℕ) → Divisor → ℕ → (Z p).Car
residues p r i = el p (at (numbers_of r) i)

pub record Shaped (p : ℕ) (κ : Kind) (r : Divisor) : Type 0 where
  pub kind : r.kind ≡ κ
  pub below : (i : ℕ) → at (numbers_of r) i < p

pub record BasisValue (p : ℕ) (C : Curve (Z p)) (κ : Kind) (r : Divisor) : Type 0 where
  pub shaped : Shaped p κ r
  pub basis : IsBasis C κ (residues p r)
