-- Document 02, 2026-09: "All calls but the call back take the old kinds only; this one takes the short kinds only". s has four bytes or more and its own length.
--   short-refused      a short record is refused with 7 as a divisor
--   old-refused        a divisor record is refused with 7 as a short record
use mathlib.Core.Path.{refl}
use mathlib.Core.Logic.{inl, inr}
use mathlib.Core.List.{List}
use Prim.Native.Nat.{ℕ}
use native.Mathlib.Omega.{arith}
use Rattle.field.specs.Residue.{Z}
use Rattle.curve.specs.Curve.{Curve}
use Rattle.divisor.specs.Kind.{Kind}
use Rattle.record.specs.Cause.{FirstCause, Sized}
use Rattle.record.specs.Divisor.{OfKind, divisor_stages}
use Rattle.short.specs.Short.{OfShort, short_stages}
use Rattle.short.proofs.Accepted.{old-code}

module _ (p : ℕ) (C : Curve (Z p)) (s : List ℕ) (sized : Sized s) where
  pub short-refused : (κ : Kind) → OfShort s κ → FirstCause (divisor_stages p C s) 7
  short-refused κ e = inr (sized, inl (λ k. omega (arith, old-code k.0, k.1, e), refl))

  pub old-refused : (κ : Kind) → OfKind s κ → FirstCause (short_stages p C s) 7
  old-refused κ e = inr (sized, inl (λ k. omega (arith, old-code κ, k.1, e), refl))
