-- Accepted records have invertible ideals.
--   accepted-invertible    the ideal of an accepted record on an accepted curve is invertible
use mathlib.Core.List.{List}
use Prim.Native.Nat.{ℕ}
use Rattle.ideal.specs.Invertible.{InvertibleIdeal}
use Rattle.ideal.proofs.Invertible.{invertible-same}
use Rattle.curve.specs.Curve.{Coordinate}
use Rattle.poles.specs.Poles.{poles}
use Rattle.nonsingular.specs.Nonsingular.{Nonsingular}
use Rattle.divisor.specs.Kind.{Kind}
use Rattle.invertible.proofs.Record.{record_invertible}
use Rattle.prime_field.specs.Field.{F}
use Rattle.record.specs.Curve.{modulus, equation, AcceptedCurve, accepted_rest, accepted_prime}
use Rattle.record.specs.Divisor.{number_at, AcceptedDivisor, IdealOfBytes}
use Rattle.record.proofs.Accepted.{Reads, accepted_reads, ideal_reads}

module _ (c s : List ℕ) (A : AcceptedCurve c) where
  smooth : Nonsingular (equation c)
  smooth = (accepted_rest c A).1.1.0

  pub accepted-invertible : AcceptedDivisor (modulus c) (equation c) s → InvertibleIdeal (Coordinate (equation c)) (IdealOfBytes (modulus c) (equation c) s)
  accepted-invertible a = go (accepted_reads (modulus c) (equation c) s a)
    where
      go : (κ : Kind) × Reads (modulus c) (equation c) κ s → InvertibleIdeal (Coordinate (equation c)) (IdealOfBytes (modulus c) (equation c) s)
      go (κ, r) =
          let K = F (modulus c) (accepted_prime c A) in
          invertible-same (poles K (equation c) K.nontrivial) (ideal_reads (modulus c) (equation c) κ s r.kind)
          (record_invertible K (equation c) K.nontrivial (number_at (modulus c) s) smooth κ r.basis)
