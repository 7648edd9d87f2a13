-- Curve records in bytes. Document 01: kind 34, length 44, the numbers p, c0 to c8.
--   curve_kind, curve_size     34 and 44
--   modulus s          p
--   coefficient_number s i     the number of the coefficient ci
--   equation s         the curve over the residues modulo p: F = y³ + x⁴ + c8·xy² + … + c0
--   curve_form s       what is checked of a curve's bytes, in order: 1 for size, 2, 1 for the kind's length
--   prime_stage p      3
--   below_stage p c    4, for the coefficients c
--   nonsingular_stage p C    5
--   curve_rest p C c   what is checked behind the form, in order: 3, 4, 5
--   curve_stages s     the form, and then the rest
--   AcceptedCurve s    all of it holds
--   accepted_rest, accepted_prime, accepted_limit, accepted_below     what an accepted curve has passed
--   setting_of         the prime and the curve of an accepted record
--   limit              the largest modulus, 2147483647
use Rattle.std.specs.Prelude.{◌≡◌, List, [], ◌∷◌, ◌++◌, ℕ, ◌+◌, ◌*◌, ◌<◌, ◌≤◌, length}
use Rattle.algebra.specs.Ring.{CommRing}
use Rattle.prime.specs.Prime.{Prime}
use Rattle.field.specs.Residue.{Z, el}
use Rattle.prime_field.specs.Field.{F}
use Rattle.curve.specs.Curve.{Curve}
use Rattle.nonsingular.specs.Nonsingular.{Nonsingular}
use Rattle.layout.specs.Layout.{number2, number4}
use Rattle.triple.specs.Setting.{Setting}
use Rattle.record.specs.Cause.{Stage, must, Passes, Sized}

abbrev pub limit : ℕ
limit = 2147483647

abbrev pub curve_kind : ℕ
curve_kind = 34

abbrev pub curve_size : ℕ
curve_size = 44

abbrev pub modulus : List ℕ → ℕ
modulus s = number4 s 4

-- the coefficient ci
abbrev pub coefficient_number : List ℕ → ℕ → ℕ
coefficient_number s i = number4 s (8 + 4 * i)

abbrev pub equation : (s : List ℕ) → Curve (Z (modulus s))
equation s =
    record {
      a0 = (Z (modulus s)).one;
      c0 = el (modulus s) (coefficient_number s 0);
      c1 = el (modulus s) (coefficient_number s 1);
      c2 = el (modulus s) (coefficient_number s 2);
      c3 = el (modulus s) (coefficient_number s 3);
      c4 = el (modulus s) (coefficient_number s 4);
      c5 = el (modulus s) (coefficient_number s 5);
      c6 = el (modulus s) (coefficient_number s 6);
      c7 = el (modulus s) (coefficient_number s 7);
      c8 = el (modulus s) (coefficient_number s 8);
    }

abbrev pub curve_form : List ℕ → List Stage
curve_form s = must 1 (Sized s) ∷ must 2 (number2 s 2 ≡ curve_kind) ∷ must 1 (length s ≡ curve_size) ∷ []

-- "p not a prime from 2 to 2147483647"
abbrev pub prime_stage : ℕ → Stage
prime_stage p = must 3 (Prime p × (p ≤ limit))

-- "some c not below p"
abbrev pub below_stage : ℕ → (ℕ → ℕ) → Stage
below_stage p c = must 4 ((i : ℕ) → i < 9 → c i < p)

-- "curve singular"
abbrev pub nonsingular_stage : (p : ℕ) → Curve (Z p) → Stage
nonsingular_stage p C = must 5 (Nonsingular C)

abbrev pub curve_rest : (p : ℕ) → Curve (Z p) → (ℕ → ℕ) → List Stage
curve_rest p C c = prime_stage p ∷ below_stage p c ∷ nonsingular_stage p C ∷ []

abbrev pub curve_stages : List ℕ → List Stage
curve_stages s = curve_form s ++ curve_rest (modulus s) (equation s) (coefficient_number s)

abbrev pub AcceptedCurve : List ℕ → Type 0
AcceptedCurve s = Passes (curve_stages s)

module _ (s : List ℕ) (A : AcceptedCurve s) where
  abbrev pub accepted_rest : Passes (curve_rest (modulus s) (equation s) (coefficient_number s))
  accepted_rest = A.1.1.1

  abbrev pub accepted_prime : Prime (modulus s)
  accepted_prime = accepted_rest.0.0

  abbrev pub accepted_limit : modulus s ≤ limit
  accepted_limit = accepted_rest.0.1

  abbrev pub accepted_below : (i : ℕ) → i < 9 → coefficient_number s i < modulus s
  accepted_below = accepted_rest.1.0

abbrev pub setting_of : (s : List ℕ) → AcceptedCurve s → Setting (modulus s)
setting_of s A =
    record {
      prime = accepted_prime s A;
      curve = equation s;
      nonzero = (F (modulus s) (accepted_prime s A)).nontrivial;
    }
