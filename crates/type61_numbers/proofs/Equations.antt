-- The equations for the numbers F0 … H2 = n 0 … n 8 of the reduced ideal of an ideal of type 61, whose basis begins with
-- u = x³ + u5·y² + … + u0 and v = x²y + v5·y² + … + v0 (us i, vs i). Only F2·G2 and F2·H2, F2·H1, F2·H0 are told: where F2 is not zero, that is all.
--   ℓ, Q, r0               a0·u5, ℓ·u5 − v5, F1 − G2
--   F2-of … F2H0-of        the right sides, over any operations: each is named after its left side
--   c-of C                 the coefficients c0 … c8 of a curve
--   Equations C us vs n    the equations hold
use mathlib.Core.Path.{◌≡◌}
use mathlib.Core.List.{[], ◌∷◌}
use Prim.Native.Nat.{ℕ}
use Rattle.algebra.specs.Ring.{CommRing, Ops, ops}
use Rattle.algebra.proofs.Sound.{nth}
use Rattle.curve.specs.Curve.{Curve}

module _ {A : Type 0} (O : Ops A) (a0 : A) (c us vs : ℕ → A) where
  abbrev ◌⊹◌ : A → A → A
  a ⊹ b = O.add a b

  abbrev ◌⊖◌ : A → A → A
  a ⊖ b = O.add a (O.neg b)

  abbrev ◌·◌ : A → A → A
  a · b = O.mul a b

  infixl 60 ◌⊹◌ ◌⊖◌
  infixl 70 ◌·◌
  abbrev pub ℓ : A
  ℓ = a0 · us 5

  abbrev pub Q : A
  Q = ℓ · us 5 ⊖ vs 5

  abbrev pub F2-of : A
  F2-of = us 4 ⊹ Q ⊖ c 8 · us 5

  module _ (n : ℕ → A) where
    abbrev pub r0 : A
    r0 = n 1 ⊖ n 5

    abbrev pub r0-of : A
    r0-of = ℓ · (n 2 ⊹ us 4) ⊖ c 7 · us 5 ⊹ us 3 ⊖ vs 4

    abbrev pub G1-of : A
    G1-of = vs 3 ⊹ c 6 · us 5 ⊖ ℓ · (us 3 ⊹ r0) ⊹ a0 · n 2 · Q

    abbrev pub F2G2-of : A
    F2G2-of = n 2 · (c 8 · Q ⊹ vs 4 ⊖ ℓ · us 4) ⊖ Q · r0 ⊖ us 5 · n 4 ⊹ c 5 · us 5 ⊖ us 2

    abbrev pub F0-of : A
    F0-of =
        n 1 · (ℓ · us 4 ⊖ vs 4) ⊖ n 2 · (c 7 · Q ⊖ ℓ · us 3 ⊹ vs 3) ⊹ n 4 · us 4 ⊖ n 5 · (c 7 · us 5 ⊖ us 3) ⊖ c 4 · us 5 ⊹ ℓ · us 2 ⊹ us 1 ⊖ vs 2

    abbrev pub G0-of : A
    G0-of =
        O.neg (ℓ · n 0) ⊹ n 1 · (vs 3 ⊖ ℓ · us 3) ⊹ n 2 · c 6 · Q ⊖ n 4 · us 3 ⊹ n 5 · c 6 · us 5 ⊹ c 3 · us 5 ⊖ ℓ · us 1 ⊹ vs 1

    abbrev pub F2H2-of : A
    F2H2-of = n 2 · n 4 ⊹ n 0 ⊖ n 5 · r0

    abbrev pub F2H1-of : A
    F2H1-of = n 4 · n 5 ⊖ n 3

    abbrev pub F2H0-of : A
    F2H0-of = n 0 · n 4 ⊖ n 3 · r0

abbrev pub c-of : {k : CommRing} → Curve k → ℕ → k.Car
c-of {k} C i = nth k i (C.c0 ∷ C.c1 ∷ C.c2 ∷ C.c3 ∷ C.c4 ∷ C.c5 ∷ C.c6 ∷ C.c7 ∷ C.c8 ∷ [])

pub record Equations {k : CommRing} (C : Curve k) (us vs n : ℕ → k.Car) : Type 0 where
  pub F2 : n 2 ≡ F2-of (ops k) C.a0 (c-of C) us vs
  pub F1_G2 : k.add (n 1) (k.neg (n 5)) ≡ r0-of (ops k) C.a0 (c-of C) us vs n
  pub G1 : n 4 ≡ G1-of (ops k) C.a0 (c-of C) us vs n
  pub F2G2 : k.mul (n 2) (n 5) ≡ F2G2-of (ops k) C.a0 (c-of C) us vs n
  pub F0 : n 0 ≡ F0-of (ops k) C.a0 (c-of C) us vs n
  pub G0 : n 3 ≡ G0-of (ops k) C.a0 (c-of C) us vs n
  pub F2H2 : k.mul (n 2) (n 8) ≡ F2H2-of (ops k) C.a0 (c-of C) us vs n
  pub F2H1 : k.mul (n 2) (n 7) ≡ F2H1-of (ops k) C.a0 (c-of C) us vs n
  pub F2H0 : k.mul (n 2) (n 6) ≡ F2H0-of (ops k) C.a0 (c-of C) us vs n
