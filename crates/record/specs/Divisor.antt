-- Divisor records in bytes, on a curve C over the residues modulo p.
--   OfKind s κ              the record's kind is κ
--   number_at p s i         the residue of its i-th number
--   divisor_form s          what is checked of a divisor's bytes, in order: 6 for size, 7, 6 for the kind's length
--   divisor_rest p C s      what is checked behind the form, in order: 8, 9
--   divisor_stages p C s    the form, and then the rest
--   AcceptedDivisor p C s   all of it holds
--   IdealOfBytes p C s      the ideal of a record: the one that its polynomials generate in the ring
use Rattle.std.specs.Prelude.{◌≡◌, List, [], ◌∷◌, ◌++◌, ℕ, ◌+◌, ◌*◌, ◌<◌, length}
use Rattle.algebra.specs.Ring.{CommRing}
use Rattle.field.specs.Residue.{Z, el}
use Rattle.curve.specs.Curve.{Curve, Coordinate}
use Rattle.divisor.specs.Kind.{Kind, code, count, size, IdealOf, IsBasis}
use Rattle.layout.specs.Layout.{number2, number4}
use Rattle.record.specs.Cause.{Stage, must, Passes, Sized}

abbrev pub OfKind : List ℕ → Kind → Type 0
OfKind s κ = number2 s 2 ≡ code κ

abbrev pub number_at : (p : ℕ) → List ℕ → ℕ → (Z p).Car
number_at p s i = el p (number4 s (4 + 4 * i))

abbrev pub divisor_form : List ℕ → List Stage
divisor_form s =
    must 6 (Sized s) ∷ must 7 ((κ : Kind) × OfKind s κ) ∷ must 6 ((κ : Kind) → OfKind s κ → length s ≡ size κ) ∷ []

module _ (p : ℕ) (C : Curve (Z p)) where
  abbrev pub divisor_rest : List ℕ → List Stage
  divisor_rest s =
      must 8 ((κ : Kind) → OfKind s κ → (i : ℕ) → i < count κ → number4 s (4 + 4 * i) < p)
      ∷ must 9 ((κ : Kind) → OfKind s κ → IsBasis C κ (number_at p s))
      ∷ []

  abbrev pub divisor_stages : List ℕ → List Stage
  divisor_stages s = divisor_form s ++ divisor_rest s

  abbrev pub AcceptedDivisor : List ℕ → Type 0
  AcceptedDivisor s = Passes (divisor_stages s)

  -- Document 01: "The ideal of a record is the one that its polynomials generate in the ring."
  abbrev pub IdealOfBytes : List ℕ → (Coordinate C).Car → Type 0
  IdealOfBytes s g = (κ : Kind) × OfKind s κ × IdealOf C κ (number_at p s) g
