-- The record of the zero class.
--   zero-basis, zero-whole the record of kind 0 is a basis, and its ideal is the whole ring
use mathlib.Core.Path.{◌≡◌, refl}
use Prim.Native.Nat.{ℕ}
use Rattle.algebra.specs.Ring.{Field}
use Rattle.algebra.proofs.Solve.{solve, ◌⊞◌, ◌⊠◌}
use Rattle.algebra.proofs.Norm.{unit, nil}
use Rattle.ideal.specs.Ideal.{SameIdeal}
use Rattle.curve.specs.Curve.{Curve, Coordinate}
use Rattle.divisor.specs.Kind.{k0, IdealOf, IsBasis}

module _ (K : Field) (C : Curve K.ring) (nonzero : ¬ (C.a0 ≡ K.ring.zero)) where
  open Coordinate C use {Car as El, zero as 𝟎, one as 𝟏, add as ◌⊕◌, mul as ◌⊗◌}

  infixl 60 ◌⊕◌
  infixl 70 ◌⊗◌
  pub zero-basis : (n : ℕ → K.ring.Car) → IsBasis C k0 n
  zero-basis n h i w = w

  pub zero-whole : (n : ℕ → K.ring.Car) → SameIdeal (Coordinate C) (λ _. Unit) (IdealOf C k0 n)
  zero-whole n h = (λ _. (h, 𝟎, refl, whole h), λ _. tt)
    where
      whole : (h : El) → h ≡ h ⊗ 𝟏 ⊕ 𝟎
      whole = solve (Coordinate C) 1 (λ h. h) (λ h. h ⊠ unit ⊞ nil) tt
