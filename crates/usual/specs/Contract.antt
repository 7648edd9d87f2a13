-- What the functions for the sum by formulas require and ensure.
--   IsLower p C o          o has the coefficients of y³ on the curve C
--   us_of, vs_of           the numbers of u and v, for the last two columns s and t of the row-reduced matrix
--   CompleteAsked, CompleteOf      completed: the divisor of the formulas
--   MatrixAsked, MatrixOf  matrix_of: the matrix of a double where the numbers are the same, and else that of a sum
--   SolveAsked             solved: what it requires
--   Pivoted p m            the determinant of the first three columns of m is not zero, and s and t are the last two of its row-reduced form
--   Solved p o n m r       … and r is the divisor of the formulas, with f2 not zero
--   Unsolved p o n m       the determinant is zero, or f2 is
--   SolvedOf               solved: the one where there is a sum, and the other where there is none
use Rattle.std.specs.Prelude.{◌≡◌, ◌⊎◌, List, ℕ, ◌<◌, Option, IfSome, IfNone}
use Rattle.algebra.specs.Ring.{ops}
use Rattle.prime.specs.Prime.{Prime}
use Rattle.field.specs.Residue.{Z, el}
use Rattle.curve.specs.Curve.{Curve}
use Rattle.divisor.specs.Kind.{k31}
use Rattle.columns.specs.Pivots.{determinant}
use Rattle.type61.proofs.Form.{less}
use Rattle.type61_numbers.proofs.Equations.{Equations, F2-of, c-of}
use Rattle.basis.specs.declared.Divisor.{Divisor}
use Rattle.basis.specs.Divisor.{numbers_of, residues, Shaped}
use Rattle.matrix.specs.declared.Column.{Column}
use Rattle.matrix.specs.Matrix.{ColumnBelow, MatrixBelow, residues_of}
use Rattle.matrix.specs.Contract.{Combines, column_residues}
use Rattle.entries.specs.declared.Lower.{Lower}
use Rattle.entries.specs.Contract.{NumbersBelow, LowerBelow, SumMatrix, DoubleMatrix}

pub record IsLower (p : ℕ) (C : Curve (Z p)) (o : Lower) : Type 0 where
  pub n6_is : el p o.n6 ≡ (Z p).neg C.c3
  pub n7_is : el p o.n7 ≡ (Z p).neg C.c4
  pub n8_is : el p o.n8 ≡ (Z p).neg C.c5
  pub n9_is : el p o.n9 ≡ (Z p).neg C.c6
  pub n10_is : el p o.n10 ≡ (Z p).neg C.c7
  pub n11_is : el p o.n11 ≡ (Z p).neg C.c8
  pub n12_is : el p o.n12 ≡ (Z p).neg C.a0

abbrev pub us_of : (p : ℕ) (n : Divisor) (s : ℕ → (Z p).Car) → ℕ → (Z p).Car
us_of p n s = less (ops (Z p)) (residues p n) 0 s

abbrev pub vs_of : (p : ℕ) (n : Divisor) (t : ℕ → (Z p).Car) → ℕ → (Z p).Car
vs_of p n t = less (ops (Z p)) (residues p n) 3 t

pub record CompleteAsked (p : ℕ) (o : Lower) (n : Divisor) (s t : Column) (i : ℕ) : Type 0 where
  pub o_below : LowerBelow p o
  pub n_below : NumbersBelow p (numbers_of n)
  pub s_below : ColumnBelow p s
  pub t_below : ColumnBelow p t
  pub i_below : i < p

pub record CompleteOf (p : ℕ) (o : Lower) (n : Divisor) (s t : Column) (i : ℕ) (r : Divisor) : Type 0 where
  pub shaped : Shaped p k31 r
  pub second : (C : Curve (Z p)) → IsLower p C o
      → residues p r 2 ≡ F2-of (ops (Z p)) C.a0 (c-of C) (us_of p n (residues_of p s)) (vs_of p n (residues_of p t))
  pub equations : (C : Curve (Z p)) → IsLower p C o → (Z p).mul (residues p r 2) (el p i) ≡ (Z p).one
      → Equations C (us_of p n (residues_of p s)) (vs_of p n (residues_of p t)) (residues p r)

pub record MatrixAsked (p : ℕ) (o : Lower) (a b : Divisor) : Type 0 where
  pub o_below : LowerBelow p o
  pub a_below : NumbersBelow p (numbers_of a)
  pub b_below : NumbersBelow p (numbers_of b)

abbrev pub MatrixOf : (p : ℕ) (o : Lower) (a b : Divisor) (r : List (List ℕ)) → Type 0
MatrixOf p o a b r =
    ((numbers_of a ≡ numbers_of b) × DoubleMatrix p o (numbers_of a) r) ⊎ ((¬ (numbers_of a ≡ numbers_of b)) × SumMatrix p (numbers_of a) (numbers_of b) r)

pub record SolveAsked (p : ℕ) (o : Lower) (n : Divisor) (m : List (List ℕ)) : Type 0 where
  pub prime : Prime p
  pub o_below : LowerBelow p o
  pub n_below : NumbersBelow p (numbers_of n)
  pub m_below : MatrixBelow p m

pub record Pivoted (p : ℕ) (m : List (List ℕ)) : Type 0 where
  pub pivots : ¬ (determinant (ops (Z p)) (column_residues p m 0) (column_residues p m 1) (column_residues p m 2) ≡ (Z p).zero)
  pub s : ℕ → (Z p).Car
  pub t : ℕ → (Z p).Car
  pub s_is : Combines (Z p) (column_residues p m 0) (column_residues p m 1) (column_residues p m 2) s (Z p).one (column_residues p m 3)
  pub t_is : Combines (Z p) (column_residues p m 0) (column_residues p m 1) (column_residues p m 2) t (Z p).one (column_residues p m 4)

pub record Solved (p : ℕ) (o : Lower) (n : Divisor) (m : List (List ℕ)) (r : Divisor) : Type 0 where
  pub pivoted : Pivoted p m
  pub shaped : Shaped p k31 r
  pub typical : ¬ (residues p r 2 ≡ (Z p).zero)
  pub equations : (C : Curve (Z p)) → IsLower p C o → Equations C (us_of p n pivoted.s) (vs_of p n pivoted.t) (residues p r)

abbrev pub Unsolved : (p : ℕ) (o : Lower) (n : Divisor) (m : List (List ℕ)) → Type 0
Unsolved p o n m =
    (determinant (ops (Z p)) (column_residues p m 0) (column_residues p m 1) (column_residues p m 2) ≡ (Z p).zero)
    ⊎ ((P : Pivoted p m)
    × ((C : Curve (Z p)) → IsLower p C o → F2-of (ops (Z p)) C.a0 (c-of C) (us_of p n P.s) (vs_of p n P.t) ≡ (Z p).zero))

pub record SolvedOf (p : ℕ) (o : Lower) (n : Divisor) (m : List (List ℕ)) (r : Option Divisor) : Type 0 where
  pub yes : IfSome r (Solved p o n m)
  pub no : IfNone r (Unsolved p o n m)
