-- Divisors by value on an accepted curve: what the code of the calls finds of them, said of their bytes.
--   ValueIdeal κ r         the ideal of the divisor by value r of the kind κ
--   value_record           the bytes of a divisor by value that is a basis are a record
--   value_ideal            their ideal is that of the value
use mathlib.Core.List.{List}
use Prim.Native.Nat.{ℕ, ◌≤◌}
use native.Mathlib.Omega.{arith}
use Rattle.ideal.specs.Ideal.{SameIdeal}
use Rattle.ideal.proofs.Same.{same_sym}
use Rattle.divisor.specs.Kind.{Kind, IdealOf}
use Rattle.basis.specs.Divisor.{residues, Shaped, BasisValue}
use Rattle.basis.specs.declared.Divisor.{Divisor}
use Rattle.record.specs.Curve.{modulus, equation, AcceptedCurve, accepted_limit}
use Rattle.record.specs.Value.{bytes_of}
use Rattle.record.proofs.Written.{bytes-bytes_of, bytes_of-accepted, bytes_of-ideal}
use Rattle.calls.specs.Class.{Ring, Record, Ideal}

module _ (c : List ℕ) (A : AcceptedCurve c) where
  fits : modulus c ≤ 4294967296
  fits = omega (arith, accepted_limit c A)

  -- the ideal of a divisor by value
  abbrev pub ValueIdeal : Kind → Divisor → (Ring c).Car → Type 0
  ValueIdeal κ r = IdealOf (equation c) κ (residues (modulus c) r)

  pub value_record : (κ : Kind) (r : Divisor) → BasisValue (modulus c) (equation c) κ r → Record c (bytes_of κ r)
  value_record κ r b = (bytes-bytes_of κ r, bytes_of-accepted (modulus c) (equation c) fits κ r b)

  pub value_ideal : (κ : Kind) (r : Divisor) → Shaped (modulus c) κ r → SameIdeal (Ring c) (ValueIdeal κ r) (Ideal c (bytes_of κ r))
  value_ideal κ r h = same_sym (Ring c) (bytes_of-ideal (modulus c) (equation c) fits κ r h)
