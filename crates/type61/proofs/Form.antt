-- The first two polynomials of a basis of an ideal of type 61: u = x³ + u5·y² + u4·xy + u3·x² + u2·y + u1·x + u0 and
-- v = x²y + v5·y² + v4·xy + v3·x² + v2·y + v1·x + v0.
--   form_over O x y l us   l + u5·y² + u4·xy + u3·x² + u2·y + u1·x + u0, over any operations
--   cubic C us, quartic C vs       the elements u and v
--   less O n m a           the numbers of x·q less a0·f + a1·g + a2·h, for the polynomials f, g, h of a record of kind 31 with the numbers n and the one, q, whose
--                          numbers stand from place m on: m is 0 for f and 3 for g
--   first, second          the polynomials f and g of a record of kind 31
use Prim.Native.Nat.{ℕ, zero, suc, ◌+◌}
use Rattle.algebra.specs.Ring.{CommRing, Ops, ops}
use Rattle.curve.specs.Curve.{Curve, Coordinate, x, y, constant}

module _ {A : Type 0} (O : Ops A) where
  abbrev ◌⊹◌ : A → A → A
  a ⊹ b = O.add a b

  abbrev ◌·◌ : A → A → A
  a · b = O.mul a b

  infixl 60 ◌⊹◌
  infixl 70 ◌·◌
  abbrev pub form_over : A → A → A → (ℕ → A) → A
  form_over x y l us = l ⊹ us 5 · (y · y) ⊹ us 4 · (x · y) ⊹ us 3 · (x · x) ⊹ us 2 · y ⊹ us 1 · x ⊹ us 0

  abbrev pub less : (ℕ → A) → ℕ → (ℕ → A) → ℕ → A
  less n m a zero = O.neg (a 0 · n 0 ⊹ a 1 · n 3 ⊹ a 2 · n 6)
  less n m a (suc zero) = n m ⊹ O.neg (a 0 · n 1 ⊹ a 1 · n 4 ⊹ a 2 · n 7)
  less n m a (suc (suc zero)) = O.neg (a 0 · n 2 ⊹ a 1 · n 5 ⊹ a 2 · n 8)
  less n m a (suc (suc (suc zero))) = n (m + 1) ⊹ O.neg (a 0)
  less n m a (suc (suc (suc (suc zero)))) = n (m + 2) ⊹ O.neg (a 1)
  less n m a (suc (suc (suc (suc (suc i))))) = O.neg (a 2)

module _ {k : CommRing} (C : Curve k) where
  open Coordinate C use {Car as El, add as ◌⊕◌, mul as ◌⊗◌}

  infixl 60 ◌⊕◌
  infixl 70 ◌⊗◌
  abbrev pub cubic : (ℕ → k.Car) → El
  cubic us = form_over (ops (Coordinate C)) (x C) (y C) (x C ⊗ x C ⊗ x C) (λ i. constant C (us i))

  abbrev pub quartic : (ℕ → k.Car) → El
  quartic vs = form_over (ops (Coordinate C)) (x C) (y C) (x C ⊗ x C ⊗ y C) (λ i. constant C (vs i))

  abbrev pub first : (ℕ → k.Car) → El
  first n = x C ⊗ x C ⊕ constant C (n 2) ⊗ y C ⊕ constant C (n 1) ⊗ x C ⊕ constant C (n 0)

  abbrev pub second : (ℕ → k.Car) → El
  second n = x C ⊗ y C ⊕ constant C (n 5) ⊗ y C ⊕ constant C (n 4) ⊗ x C ⊕ constant C (n 3)
