-- Document 01, "Records": the table of divisor kinds, and when a record is a basis. A record's numbers are n 0, n 1, … in its order.
--
--   Kind            Length  Numbers in order      Polynomials                                   Remaining monomials
--   0 zero class    4       none                  1                                             none
--   11              12      f0, g0                x + f0; y + g0                                1
--   21              20      f0, f1, g0, g1        y + f1·x + f0; x² + g1·x + g0                 1, x
--   22              16      f0, g0, g1            x + f0; y² + g1·y + g0                        1, y
--   31              40      f0, f1, f2, g0, …, h2 x² + f2·y + f1·x + f0; xy + g2·y + g1·x + g0; y² + h2·y + h1·x + h0     1, x, y
--
--   Kind, code κ, count κ       the five kinds k0, k11, k21, k22, k31, the kind's number, how many numbers its record has (crate kind)
--   size κ                      how many bytes its record has
--   polynomials C κ n           the polynomials of a record
--   remaining C κ               the remaining monomials
--   IdealOf C κ n               the ideal that the polynomials generate in the ring
--   MadeOf C ms h               h is made of the monomials ms alone
--   IsBasis C κ n               the record is a basis
use Rattle.std.specs.Prelude.{◌≡◌, List, [], ◌∷◌, ℕ, ◌+◌, ◌*◌}
use Rattle.algebra.specs.Ring.{CommRing}
use Rattle.ideal.specs.Ideal.{Generated}
use Rattle.curve.specs.Curve.{Curve, Coordinate, x, y, constant}
pub use Rattle.kind.specs.declared.Kind.{Kind}
pub use Rattle.kind.specs.declared.Kind.TheVariants.{Zero as k0, K11 as k11, K21 as k21, K22 as k22, K31 as k31}
pub use Rattle.kind.specs.Kinds.{code, count}

-- the length of a record of this kind: two bytes of length, two of kind, four for each number
abbrev pub size : Kind → ℕ
size κ = 4 + 4 * count κ

module _ {k : CommRing} (C : Curve k) where
  open Coordinate C use {Car, zero, one, add as ◌⊕◌, mul as ◌⊗◌}

  infixl 60 ◌⊕◌
  infixl 70 ◌⊗◌
  abbrev pub polynomials : Kind → (ℕ → k.Car) → List Car
  polynomials k0 n = one ∷ []
  polynomials k11 n = (x C ⊕ constant C (n 0)) ∷ (y C ⊕ constant C (n 1)) ∷ []
  polynomials k21 n =
      (y C ⊕ constant C (n 1) ⊗ x C ⊕ constant C (n 0)) ∷ (x C ⊗ x C ⊕ constant C (n 3) ⊗ x C ⊕ constant C (n 2)) ∷ []
  polynomials k22 n =
      (x C ⊕ constant C (n 0)) ∷ (y C ⊗ y C ⊕ constant C (n 2) ⊗ y C ⊕ constant C (n 1)) ∷ []
  polynomials k31 n =
      (x C ⊗ x C ⊕ constant C (n 2) ⊗ y C ⊕ constant C (n 1) ⊗ x C ⊕ constant C (n 0))
      ∷ (x C ⊗ y C ⊕ constant C (n 5) ⊗ y C ⊕ constant C (n 4) ⊗ x C ⊕ constant C (n 3))
      ∷ (y C ⊗ y C ⊕ constant C (n 8) ⊗ y C ⊕ constant C (n 7) ⊗ x C ⊕ constant C (n 6))
      ∷ []

  abbrev pub remaining : Kind → List Car
  remaining k0 = []
  remaining k11 = one ∷ []
  remaining k21 = one ∷ x C ∷ []
  remaining k22 = one ∷ y C ∷ []
  remaining k31 = one ∷ x C ∷ y C ∷ []

  -- Document 01: "The ideal of a record is the one that its polynomials generate in the ring."
  abbrev pub IdealOf : Kind → (ℕ → k.Car) → Car → Type 0
  IdealOf κ n = Generated (Coordinate C) (polynomials κ n)

  abbrev pub MadeOf : List Car → Car → Type 0
  MadeOf [] h = h ≡ zero
  MadeOf (m ∷ ms) h = (a : k.Car) × (s : Car) × MadeOf ms s × (h ≡ constant C a ⊗ m ⊕ s)

  -- Document 01: "A divisor record is a basis if the ideal that its polynomials generate in the ring has no nonzero element made
  -- of the remaining monomials alone."
  abbrev pub IsBasis : Kind → (ℕ → k.Car) → Type 0
  IsBasis κ n = (h : Car) → IdealOf κ n h → MadeOf (remaining κ) h → h ≡ zero
