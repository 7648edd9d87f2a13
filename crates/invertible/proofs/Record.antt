-- On a nonsingular curve over a field the ideal of a record that is a basis is invertible.
--   record_invertible      the ideal of a basis is invertible
--   record_colon           I·(u : I) = (u) for every u in the ideal I of a basis; for its least element in particular
use mathlib.Core.Path.{◌≡◌, sym, subst₂}
use mathlib.Core.List.{[], ◌∷◌}
use Prim.Native.Nat.{ℕ, ◌≤◌}
use native.Mathlib.Omega.{arith}
use Rattle.algebra.specs.Ring.{Field}
use Rattle.ideal.specs.Ideal.{Generated, Product, Multiple, Colon, SameIdeal}
use Rattle.ideal.specs.Poles.{Poles}
use Rattle.ideal.specs.Invertible.{InvertibleIdeal}
use Rattle.ideal.proofs.Degree.{pole-nonzero}
use Rattle.ideal.proofs.Generated.{generated_ideal}
use Rattle.ideal.proofs.Invertible.{colon_invertible, invertible_colon}
use Rattle.curve.specs.Curve.{Curve, Coordinate}
use Rattle.poles.specs.Poles.{poles}
use Rattle.nonsingular.specs.Nonsingular.{Nonsingular}
use Rattle.nonsingular.proofs.Nonsingular.{nonsingular}
use Rattle.divisor.specs.Kind.{Kind, k0, k11, k21, k22, k31, polynomials, IdealOf, IsBasis}
use Rattle.divisor.proofs.Table.{kind_by}
use Rattle.divisor.proofs.Members.{member, member-pole}
use Rattle.expressions.proofs.Letters.{F, derivative}
use Rattle.invertible.proofs.Value.{at, slope_x, slope_y}
use Rattle.invertible.proofs.Certificate.{form}
use Rattle.invertible.proofs.Relations.{certificate, certified}
use Rattle.invertible.proofs.Sound.{certificate_sound}

module _ (K : Field) (C : Curve K.ring) (nonzero : ¬ (C.a0 ≡ K.ring.zero)) (n : ℕ → K.ring.Car) where
  open Coordinate C use {Car as El, zero as 𝟎, one as 𝟏}

  abbrev P : Poles (Coordinate C)
  P = poles K C nonzero

  member-nonzero : (κ : Kind) (j : ℕ) → j ≤ 2 → ¬ (member C κ n j ≡ 𝟎)
  member-nonzero κ j l = pole-nonzero P (member-pole K C nonzero n κ j l)

  -- the first polynomial is the member in class 1 for kind 21, in class 0 for the others
  first-nonzero : (κ : Kind) → ¬ (at C n (form κ 0) ≡ 𝟎)
  first-nonzero =
      kind_by (λ κ. ¬ (at C n (form κ 0) ≡ 𝟎)) (member-nonzero k0 0 (omega arith)) (member-nonzero k11 0 (omega arith)) (member-nonzero k21 1 (omega arith))
      (member-nonzero k22 0 (omega arith)) (member-nonzero k31 0 (omega arith))

  module _ (smooth : Nonsingular C) (κ : Kind) (basis : IsBasis C κ n) where
    slopes : Generated (Coordinate C) (at C n (derivative 0 F) ∷ at C n (derivative 1 F) ∷ []) 𝟏
    slopes = subst₂ (λ d d'. Generated (Coordinate C) (d ∷ d' ∷ []) 𝟏) (sym (slope_x C n)) (sym (slope_y C n)) ((nonsingular C).0 smooth)

    pub record_invertible : InvertibleIdeal (Coordinate C) (IdealOf C κ n)
    record_invertible =
        colon_invertible P (generated_ideal (Coordinate C) (polynomials C κ n)) (first-nonzero κ) (certificate_sound C n κ (certificate κ) (certified κ) basis slopes)

    pub record_colon : (u : El) → IdealOf C κ n u
        → SameIdeal (Coordinate C) (Product (Coordinate C) (IdealOf C κ n) (Colon (Coordinate C) u (IdealOf C κ n))) (Multiple (Coordinate C) u)
    record_colon u = invertible_colon P record_invertible
