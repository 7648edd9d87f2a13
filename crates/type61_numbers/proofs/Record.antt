-- The record of the reduced ideal of an ideal of type 61, by the numbers of u and v.
--   type61_record          nine numbers that satisfy the equations, with F2 ≢ 0, are that record, of kind 31
--   type61_second          whatever F2 is, the record is of kind 31 and F2 is its number f2
use mathlib.Core.Path.{◌≡◌, sym, ◌∙◌}
use Prim.Native.Nat.{ℕ, ◌<◌}
use native.Mathlib.Omega.{arith}
use Rattle.algebra.specs.Ring.{Field, ops}
use Rattle.ideal.specs.Poles.{Poles}
use Rattle.ideal.specs.Reduced.{IsReduced}
use Rattle.ideal.proofs.Same.{same_refl}
use Rattle.ideal.proofs.Star.{reduced-same}
use Rattle.ideal.proofs.Reduced.{reduced_unique}
use Rattle.curve.specs.Curve.{Curve, Coordinate}
use Rattle.poles.specs.Poles.{poles}
use Rattle.divisor.specs.Kind.{Kind, k31, IdealOf, IsBasis}
use Rattle.divisor.proofs.Codes.{ideal-same, basis-same}
use Rattle.divisor.proofs.Unique.{SameRecord, record_unique}
use Rattle.type61.proofs.Form.{cubic, quartic}
use Rattle.type61.proofs.Shape.{Type61}
use Rattle.type61.proofs.Reduction.{Reduction, reduction}
use Rattle.type61_numbers.proofs.Equations.{F2-of, c-of, Equations}
use Rattle.type61_numbers.proofs.Numbers.{numbers-equations}
use Rattle.type61_numbers.proofs.Unique.{equations_unique}

module _ (K : Field) (C : Curve K.ring) (nonzero : ¬ (C.a0 ≡ K.ring.zero)) where
  abbrev P : Poles (Coordinate C)
  P = poles K C nonzero

  module _ {J : (Coordinate C).Car → Type 0} (us vs : ℕ → K.ring.Car) where
    reduction_equations : (s : Reduction K C nonzero J (cubic C us) (quartic C vs)) → Equations C us vs s.numbers
    reduction_equations s = numbers-equations C us vs s.numbers s.basis s.κ s.ν s.identity

    pub type61_record : (r : ℕ → K.ring.Car) → Type61 P J (cubic C us) (quartic C vs) → Equations C us vs r → ¬ (r 2 ≡ K.ring.zero)
        → IsBasis C k31 r × IsReduced P J (IdealOf C k31 r)
    type61_record r t e h = go (reduction K C nonzero t)
      where
        go : Reduction K C nonzero J (cubic C us) (quartic C vs) → IsBasis C k31 r × IsReduced P J (IdealOf C k31 r)
        go s = (
          basis-same C s.numbers r k31 same s.basis,
          reduced-same P (same_refl (Coordinate C) J) (ideal-same C s.numbers r k31 same) s.reduced,
        )
          where
            same : (i : ℕ) → i < 9 → s.numbers i ≡ r i
            same i l = sym (equations_unique K C us vs r s.numbers e (reduction_equations s) h i l)

    pub type61_second : Type61 P J (cubic C us) (quartic C vs) → (κ : Kind) (n : ℕ → K.ring.Car) → IsBasis C κ n → IsReduced P J (IdealOf C κ n)
        → (κ ≡ k31) × (n 2 ≡ F2-of (ops K.ring) C.a0 (c-of C) us vs)
    type61_second t κ n b r = go (reduction K C nonzero t)
      where
        go : Reduction K C nonzero J (cubic C us) (quartic C vs) → (κ ≡ k31) × (n 2 ≡ F2-of (ops K.ring) C.a0 (c-of C) us vs)
        go s = (sym same.kind, sym (same.numbers 2 (omega arith)) ∙ (reduction_equations s).F2)
          where
            same : SameRecord k31 s.numbers κ n
            same = record_unique K C nonzero k31 κ s.numbers n s.basis b (reduced_unique P t.based.ideal s.reduced r)
