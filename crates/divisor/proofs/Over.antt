-- A record's polynomials and members as formulas over any operations: at a ring, and at the solver's expressions.
--   polynomials_over O x y κ n     the polynomials of a record with the numbers n, as the table of kinds writes them
--   members_over O x y κ n         its members
use mathlib.Core.List.{List, [], ◌∷◌}
use Prim.Native.Nat.{ℕ}
use Rattle.algebra.specs.Ring.{Ops}
use Rattle.divisor.specs.Kind.{Kind, k0, k11, k21, k22, k31}

module _ {A : Type 0} (O : Ops A) (x y : A) where
  abbrev ◌+◌ : A → A → A
  a + b = O.add a b

  abbrev ◌·◌ : A → A → A
  a · b = O.mul a b

  infixl 60 ◌+◌
  infixl 70 ◌·◌
  abbrev pub polynomials_over : Kind → (ℕ → A) → List A
  polynomials_over k0 n = O.one ∷ []
  polynomials_over k11 n = (x + n 0) ∷ (y + n 1) ∷ []
  polynomials_over k21 n = (y + n 1 · x + n 0) ∷ (x · x + n 3 · x + n 2) ∷ []
  polynomials_over k22 n = (x + n 0) ∷ (y · y + n 2 · y + n 1) ∷ []
  polynomials_over k31 n =
      (x · x + n 2 · y + n 1 · x + n 0) ∷ (x · y + n 5 · y + n 4 · x + n 3) ∷ (y · y + n 8 · y + n 7 · x + n 6) ∷ []

  abbrev pub members_over : Kind → (ℕ → A) → List A
  members_over k0 n = O.one ∷ y ∷ y · y ∷ []
  members_over k11 n = (x + n 0) ∷ (y + n 1) ∷ y · (y + n 1) ∷ []
  members_over k21 n = (x · x + n 3 · x + n 2) ∷ (y + n 1 · x + n 0) ∷ y · (y + n 1 · x + n 0) ∷ []
  members_over k22 n = (x + n 0) ∷ y · (x + n 0) ∷ (y · y + n 2 · y + n 1) ∷ []
  members_over k31 n =
      (x · x + n 2 · y + n 1 · x + n 0) ∷ (x · y + n 5 · y + n 4 · x + n 3) ∷ (y · y + n 8 · y + n 7 · x + n 6) ∷ []
