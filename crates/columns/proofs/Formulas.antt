-- The columns that a program computes, of specs/Pivots, are columns: those of f, g and h, of the three polynomials q of a double (crate invertible, proofs/Adjugate),
-- and of their multiples by x. The numbers of a record are f0, f1, f2, g0, …, h2 in its order.
--   shift O m c            a column of x·w modulo m, from the column c of w
--   difference-column, shift-column, square-column     these are columns
--   member_in              the ideal of a record holds its polynomials
use mathlib.Core.Path.{◌≡◌, refl, sym, ◌∙◌, ap, subst}
use mathlib.Core.List.{List, [], ◌∷◌}
use Prim.Native.Nat.{ℕ, zero, suc, ◌+◌, ◌≤◌}
use native.Mathlib.Omega.{arith}
use lib.ListN.{get_or}
use Rattle.algebra.specs.Ring.{CommRing, Ops, ops}
use Rattle.algebra.proofs.Norm.{E, num, nil, unit, E-ops, Same}
use Rattle.algebra.proofs.Solve.{solve, combine, ◌⊞◌, ◌⊠◌, ⊟◌}
use Rattle.ideal.specs.Ideal.{IsIdeal}
use Rattle.ideal.proofs.Generated.{generated_ideal, generated_each}
use Rattle.curve.specs.Curve.{Curve, Coordinate, x, y, constant}
use Rattle.curve.proofs.Coefficient.{constant-add, constant-neg}
use Rattle.divisor.specs.Kind.{k31, polynomials, IdealOf}
use Rattle.divisor.proofs.Table.{class_by}
use Rattle.divisor.proofs.Over.{polynomials_over}
use Rattle.divisor.proofs.Members.{member}
use Rattle.expressions.proofs.Letters as letters
use Rattle.expressions.proofs.Letters.{◌⊝◌, origin}
use Rattle.expressions.proofs.Value as formula
use Rattle.expressions.proofs.Value.{number_at, at_same, origin_at}
use Rattle.invertible.proofs.Formula.{forms}
use Rattle.invertible.proofs.Value.{nine, at}
use Rattle.invertible.proofs.Adjugate.{q}
use Rattle.columns.specs.Pivots.{difference, square}
use Rattle.columns.proofs.Column.{plane_over, plane, IsColumn, column_cong}

module _ {A : Type 0} (O : Ops A) where
  abbrev ◌⊹◌ : A → A → A
  a ⊹ b = O.add a b

  abbrev ◌−◌ : A → A → A
  a − b = O.add a (O.neg b)

  abbrev ◌·◌ : A → A → A
  a · b = O.mul a b

  infixl 60 ◌⊹◌ ◌−◌
  infixl 70 ◌·◌
  abbrev pub shift : (m c : ℕ → A) → ℕ → A
  shift m c zero = O.neg (c 1 · m 0 ⊹ c 2 · m 3)
  shift m c (suc zero) = c 0 − (c 1 · m 1 ⊹ c 2 · m 4)
  shift m c (suc (suc i)) = O.neg (c 1 · m 2 ⊹ c 2 · m 5)

-- the multiples of f, g and h that q j has beside its column
abbrev multiples : ℕ → List E
multiples zero = letters.c 8 ∷ unit ∷ []
multiples (suc zero) = letters.a0 ⊠ letters.n 2 ∷ letters.c 8 ∷ unit ∷ []
multiples (suc (suc j)) =
    (letters.a0 ⊠ (letters.n 1 ⊞ letters.n 5 ⊝ letters.x) ⊝ letters.c 6) ∷ (num 2 ⊠ letters.a0 ⊠ letters.n 2 ⊝ letters.c 7) ∷ []

abbrev square_letters : ℕ → ℕ → E
square_letters =
    square E-ops letters.a0 (letters.c 3) (letters.c 4) (letters.c 5) (letters.c 6) (letters.c 7) (letters.c 8) letters.n

abbrev plane_letters : (ℕ → E) → E
plane_letters = plane_over E-ops letters.x letters.y

module _ {k : CommRing} (C : Curve k) where
  open k use {Car, add as ◌+ₖ◌, neg as -ₖ◌}
  open Coordinate C use {Car as El, zero as 𝟎, add as ◌⊕◌, mul as ◌⊗◌, neg as ⊖◌}

  infixl 60 ◌⊕◌ ◌+ₖ◌
  infixl 70 ◌⊗◌
  infix 80 ⊖◌ -ₖ◌
  abbrev R : CommRing
  R = Coordinate C

  plane_at : (us : List Car) (c : ℕ → E) → formula.at C us (plane_letters (λ i. origin (c i))) ≡ plane C (λ i. number_at C us (c i))
  plane_at us c = λ t. origin_at C us (c 0) t ⊕ origin_at C us (c 1) t ⊗ x C ⊕ origin_at C us (c 2) t ⊗ y C

  module _ (m : ℕ → Car) where
    abbrev I : El → Type 0
    I = IdealOf C k31 m

    ideal : IsIdeal R I
    ideal = generated_ideal R (polynomials C k31 m)

    pub member_in : (j : ℕ) → j ≤ 2 → I (member C k31 m j)
    member_in = let e = generated_each R (polynomials C k31 m) in class_by (λ j. I (member C k31 m j)) e.0 e.1.0 e.1.1.0

    pub difference-column : (n : ℕ → Car) (j : ℕ) → j ≤ 2 → IsColumn C m (member C k31 n j) (difference (ops k) n m j)
    difference-column n j b = record { member = subst I (sym (class_by Q (lone _ n m) (lone _ (λ i. n (3 + i)) (λ i. m (3 + i))) (lone _ (λ i. n (6 + i)) (λ i. m (6 + i))) j b)) (member_in j b) }
      where
        Q : ℕ → Type 0
        Q j = member C k31 n j ⊕ ⊖ plane C (difference (ops k) n m j) ≡ member C k31 m j

        less : (a b : Car) → constant C (a +ₖ -ₖ b) ≡ constant C a ⊕ ⊖ constant C b
        less a b = constant-add C a (-ₖ b) ∙ ap (λ u. constant C a ⊕ u) (constant-neg C b)

        again : (v x y n0 n1 n2 m0 m1 m2 : El)
            → v ⊕ n2 ⊗ y ⊕ n1 ⊗ x ⊕ n0 ⊕ ⊖ (n0 ⊕ ⊖ m0 ⊕ (n1 ⊕ ⊖ m1) ⊗ x ⊕ (n2 ⊕ ⊖ m2) ⊗ y) ≡ v ⊕ m2 ⊗ y ⊕ m1 ⊗ x ⊕ m0
        again =
            solve R 9 (λ v x y n0 n1 n2 m0 m1 m2. v ⊞ n2 ⊠ y ⊞ n1 ⊠ x ⊞ n0 ⊞ ⊟ (n0 ⊝ m0 ⊞ (n1 ⊝ m1) ⊠ x ⊞ (n2 ⊝ m2) ⊠ y))
            (λ v x y n0 n1 n2 m0 m1 m2. v ⊞ m2 ⊠ y ⊞ m1 ⊠ x ⊞ m0) tt

        lone : (v : El) (a b : ℕ → Car)
            → v ⊕ constant C (a 2) ⊗ y C ⊕ constant C (a 1) ⊗ x C ⊕ constant C (a 0) ⊕ ⊖ plane C (λ i. a i +ₖ -ₖ b i)
            ≡ v ⊕ constant C (b 2) ⊗ y C ⊕ constant C (b 1) ⊗ x C ⊕ constant C (b 0)
        lone v a b =
            (λ t. v ⊕ constant C (a 2) ⊗ y C ⊕ constant C (a 1) ⊗ x C ⊕ constant C (a 0) ⊕ ⊖ (less (a 0) (b 0) t ⊕ less (a 1) (b 1) t ⊗ x C ⊕ less (a 2) (b 2) t ⊗ y C))
            ∙ again v (x C) (y C) _ _ _ _ _ _

    -- x·(c0 + c1·x + c2·y) less the new column is c1·f + c2·g
    pub shift-column : {w : El} {c : ℕ → Car} → IsColumn C m w c → IsColumn C m (x C ⊗ w) (shift (ops k) m c)
    shift-column {w} {c} column = record {
      member =
          subst I (ap (λ r. x C ⊗ (w ⊕ ⊖ plane C c) ⊕ r) (sym rest) ∙ again (x C) w (plane C c) (plane C (shift (ops k) m c)))
          (ideal.sum (ideal.times (x C) column.member) (ideal.sum (ideal.times (constant C (c 1)) (member_in 0 (omega arith))) (ideal.times (constant C (c 2)) (member_in 1 (omega arith)))));
    }
      where
        again : (x w p n : El) → x ⊗ (w ⊕ ⊖ p) ⊕ (x ⊗ p ⊕ ⊖ n) ≡ x ⊗ w ⊕ ⊖ n
        again = solve R 4 (λ x w p n. x ⊠ (w ⊝ p) ⊞ (x ⊠ p ⊝ n)) (λ x w p n. x ⊠ w ⊝ n) tt

        us : List Car
        us = c 0 ∷ c 1 ∷ c 2 ∷ m 0 ∷ m 1 ∷ m 2 ∷ m 3 ∷ m 4 ∷ m 5 ∷ []

        record_letters : ℕ → E
        record_letters i = letters.n (3 + i)

        new : ℕ → E
        new = shift E-ops record_letters letters.n

        form : ℕ → E
        form j = get_or (polynomials_over E-ops letters.x letters.y k31 record_letters) j nil

        rest : x C ⊗ plane C c ⊕ ⊖ plane C (shift (ops k) m c) ≡ constant C (c 1) ⊗ member C k31 m 0 ⊕ constant C (c 2) ⊗ member C k31 m 1
        rest =
            ap (λ p. x C ⊗ plane C c ⊕ ⊖ p) (sym (plane_at us new))
            ∙ at_same C us (letters.x ⊠ plane_letters letters.n ⊝ plane_letters (λ i. origin (new i))) (letters.n 1 ⊠ form 0 ⊞ letters.n 2 ⊠ form 1) tt

  module _ (n : ℕ → Car) where
    pub square-column : (j : ℕ) → j ≤ 2 → IsColumn C n (at C n (q j)) (square (ops k) C.a0 C.c3 C.c4 C.c5 C.c6 C.c7 C.c8 n j)
    square-column = class_by Q (found 0 tt (class_by _ refl refl refl)) (found 1 tt (class_by _ refl refl refl)) (found 2 tt (class_by _ refl refl refl))
      where
        new : ℕ → ℕ → Car
        new = square (ops k) C.a0 C.c3 C.c4 C.c5 C.c6 C.c7 C.c8 n

        Q : ℕ → Type 0
        Q j = IsColumn C n (at C n (q j)) (new j)

        old : ℕ → ℕ → Car
        old j i = number_at C (nine n) (square_letters j i)

        found : (j : ℕ) → Same (q j ⊝ plane_letters (λ i. origin (square_letters j i))) (combine (forms k31) (multiples j)) → ((i : ℕ) → i ≤ 2 → old j i ≡ new j i) → Q j
        found j t e = column_cong C n e (record {
          member =
              subst (IdealOf C k31 n) (sym (at_same C (nine n) (q j ⊝ plane_letters (λ i. origin (square_letters j i))) (combine (forms k31) (multiples j)) t)
              ∙ ap (λ p. at C n (q j) ⊕ ⊖ p) (plane_at (nine n) (square_letters j))) (_, _, (_, _, (_, 𝟎, refl, refl), refl), refl);
        })
