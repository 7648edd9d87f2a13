-- What the functions on the matrix of two divisors require and ensure. A divisor is given by the list of its nine numbers, n or m.
--   lower_of y3            the coefficients of y³ at the pole numbers 6 to 12
--   NumbersBelow p n, LowerBelow p o, PartsBelow p w       the numbers are below p, and p is below 2^31
--   ShiftAsked, Shifted    shifted: x·v modulo the ideal of the divisor with the numbers m
--   Difference             difference: the column with the entries a − b
--   SumMatrixAsked, SumMatrix      sum_matrix: the matrix of a sum
--   PartsAsked, PartsOf    parts_of: what the columns of a double share
--   TwinAsked, FirstTwin, SecondTwin, ThirdTwin    the columns of the three polynomials of a double
--   DoubleMatrix           double_matrix: the matrix of a double
use Rattle.std.specs.Prelude.{◌≡◌, List, ℕ, ◌<◌, get_or}
use Rattle.field.specs.Residue.{Z, el}
use Rattle.barrett.specs.Contract.{more₁, less₂}
use Rattle.chains.specs.Contract.{more₂, more₁_less₁, more₂_less₁, more₃_less₁}
use Rattle.matrix.specs.declared.Column.{Column}
use Rattle.matrix.specs.Matrix.{rows_of, ColumnBelow}
use Rattle.entries.specs.declared.Lower.{Lower}
use Rattle.entries.specs.declared.Parts.{Parts}

abbrev pub lower_of : List ℕ → Lower
lower_of y3 = record { n6 = get_or y3 6 0; n7 = get_or y3 7 0; n8 = get_or y3 8 0; n9 = get_or y3 9 0; n10 = get_or y3 10 0; n11 = get_or y3 11 0; n12 = get_or y3 12 0 }

pub record NumbersBelow (p : ℕ) (n : List ℕ) : Type 0 where
  pub small : p < 2147483648
  pub n0 : get_or n 0 0 < p
  pub n1 : get_or n 1 0 < p
  pub n2 : get_or n 2 0 < p
  pub n3 : get_or n 3 0 < p
  pub n4 : get_or n 4 0 < p
  pub n5 : get_or n 5 0 < p
  pub n6 : get_or n 6 0 < p
  pub n7 : get_or n 7 0 < p
  pub n8 : get_or n 8 0 < p

pub record LowerBelow (p : ℕ) (o : Lower) : Type 0 where
  pub small : p < 2147483648
  pub n6 : o.n6 < p
  pub n7 : o.n7 < p
  pub n8 : o.n8 < p
  pub n9 : o.n9 < p
  pub n10 : o.n10 < p
  pub n11 : o.n11 < p
  pub n12 : o.n12 < p

pub record PartsBelow (p : ℕ) (w : Parts) : Type 0 where
  pub a0 : w.a0 < p
  pub a1 : w.a1 < p
  pub a2 : w.a2 < p
  pub r1 : w.r1 < p
  pub r2 : w.r2 < p
  pub s : w.s < p
  pub t : w.t < p
  pub s0 : w.s0 < p
  pub r0 : w.r0 < p
  pub k : w.k < p
  pub l : w.l < p

pub record ShiftAsked (p : ℕ) (v : Column) (m : List ℕ) : Type 0 where
  pub v_below : ColumnBelow p v
  pub m_below : NumbersBelow p m

pub record Shifted (p : ℕ) (v : Column) (m : List ℕ) (r : Column) : Type 0 where
  pub below : ColumnBelow p r
  pub one_is : el p r.one ≡ less₂ (Z p) (el p 0) (el p v.x) (el p (get_or m 0 0)) (el p v.y) (el p (get_or m 3 0))
  pub x_is : el p r.x ≡ less₂ (Z p) (el p v.one) (el p v.x) (el p (get_or m 1 0)) (el p v.y) (el p (get_or m 4 0))
  pub y_is : el p r.y ≡ less₂ (Z p) (el p 0) (el p v.x) (el p (get_or m 2 0)) (el p v.y) (el p (get_or m 5 0))

pub record Difference (p : ℕ) (a0 : ℕ) (a1 : ℕ) (a2 : ℕ) (b0 : ℕ) (b1 : ℕ) (b2 : ℕ) (r : Column) : Type 0 where
  pub below : ColumnBelow p r
  pub one_is : el p r.one ≡ (Z p).add (el p a0) ((Z p).neg (el p b0))
  pub x_is : el p r.x ≡ (Z p).add (el p a1) ((Z p).neg (el p b1))
  pub y_is : el p r.y ≡ (Z p).add (el p a2) ((Z p).neg (el p b2))

pub record SumMatrixAsked (p : ℕ) (n m : List ℕ) : Type 0 where
  pub n_below : NumbersBelow p n
  pub m_below : NumbersBelow p m

pub record SumMatrix (p : ℕ) (n m : List ℕ) (r : List (List ℕ)) : Type 0 where
  pub a : Column
  pub b : Column
  pub c : Column
  pub d : Column
  pub e : Column
  pub rows : r ≡ rows_of a b c d e
  pub a_is : Difference p (get_or n 0 0) (get_or n 1 0) (get_or n 2 0) (get_or m 0 0) (get_or m 1 0) (get_or m 2 0) a
  pub b_is : Difference p (get_or n 3 0) (get_or n 4 0) (get_or n 5 0) (get_or m 3 0) (get_or m 4 0) (get_or m 5 0) b
  pub c_is : Difference p (get_or n 6 0) (get_or n 7 0) (get_or n 8 0) (get_or m 6 0) (get_or m 7 0) (get_or m 8 0) c
  pub d_is : Shifted p a m d
  pub e_is : Shifted p b m e

pub record PartsAsked (p : ℕ) (o : Lower) (n : List ℕ) : Type 0 where
  pub o_below : LowerBelow p o
  pub n_below : NumbersBelow p n

pub record PartsOf (p : ℕ) (o : Lower) (n : List ℕ) (r : Parts) : Type 0 where
  pub below : PartsBelow p r
  pub a0_is : el p r.a0 ≡ (Z p).mul (el p o.n12) (el p (get_or n 0 0))
  pub a1_is : el p r.a1 ≡ (Z p).mul (el p o.n12) (el p (get_or n 1 0))
  pub a2_is : el p r.a2 ≡ (Z p).mul (el p o.n12) (el p (get_or n 2 0))
  pub r1_is : el p r.r1 ≡ (Z p).add (el p r.a1) ((Z p).neg (el p o.n9))
  pub r2_is : el p r.r2 ≡ (Z p).add (el p r.a2) ((Z p).neg (el p o.n10))
  pub s_is : el p r.s ≡ (Z p).add (el p (get_or n 1 0)) ((Z p).neg (el p (get_or n 5 0)))
  pub t_is : el p r.t ≡ more₁ (Z p) ((Z p).add (el p o.n8) (el p (get_or n 8 0))) (el p (get_or n 2 0)) (el p r.r2)
  pub s0_is : el p r.s0 ≡ more₂_less₁ (Z p) ((Z p).add (el p o.n7) (el p (get_or n 7 0))) (el p (get_or n 2 0)) (el p r.r1) (el p (get_or n 1 0)) (el p r.r2) (el p o.n11) (el p (get_or n 8 0))
  pub r0_is : el p r.r0 ≡ more₁_less₁ (Z p) ((Z p).add (el p r.a0) ((Z p).neg (el p o.n6))) (el p o.n11) (el p (get_or n 7 0)) (el p (get_or n 1 0)) (el p r.r1)
  pub k_is : el p r.k ≡ more₁ (Z p) (el p r.r1) (el p o.n12) (el p (get_or n 5 0))
  pub l_is : el p r.l ≡ (Z p).add (el p r.r2) (el p r.a2)

pub record TwinAsked (p : ℕ) (o : Lower) (n : List ℕ) (w : Parts) : Type 0 where
  pub o_below : LowerBelow p o
  pub n_below : NumbersBelow p n
  pub w_below : PartsBelow p w

pub record FirstTwin (p : ℕ) (o : Lower) (n : List ℕ) (w : Parts) (r : Column) : Type 0 where
  pub below : ColumnBelow p r
  pub one_is : el p r.one ≡ more₂_less₁ (Z p) ((Z p).neg (el p (get_or n 3 0))) (el p (get_or n 2 0)) (el p w.s0) (el p o.n11) (el p (get_or n 0 0)) (el p w.s) (el p w.t)
  pub x_is : el p r.x ≡ more₁ (Z p) ((Z p).neg ((Z p).add (el p w.t) (el p (get_or n 4 0)))) (el p o.n11) (el p (get_or n 5 0))
  pub y_is : el p r.y ≡ more₁ (Z p) ((Z p).add (el p w.s) ((Z p).neg (el p (get_or n 5 0)))) (el p o.n11) (el p (get_or n 2 0))

pub record SecondTwin (p : ℕ) (o : Lower) (n : List ℕ) (w : Parts) (r : Column) : Type 0 where
  pub below : ColumnBelow p r
  pub one_is : el p r.one ≡ more₂_less₁ (Z p) ((Z p).neg (el p (get_or n 6 0))) (el p (get_or n 2 0)) ((Z p).add (el p w.r0) (el p w.a0)) (el p o.n11) (el p (get_or n 3 0)) (el p (get_or n 4 0)) (el p w.t)
  pub x_is : el p r.x ≡ more₁ (Z p) ((Z p).neg (el p (get_or n 7 0))) (el p (get_or n 2 0)) ((Z p).add (el p w.r1) (el p w.a1))
  pub y_is : el p r.y ≡ more₂ (Z p) ((Z p).add (el p (get_or n 4 0)) ((Z p).neg ((Z p).add (el p w.t) (el p (get_or n 8 0))))) (el p (get_or n 2 0)) (el p w.l) (el p o.n11) (el p (get_or n 5 0))

pub record ThirdTwin (p : ℕ) (o : Lower) (n : List ℕ) (w : Parts) (r : Column) : Type 0 where
  pub below : ColumnBelow p r
  pub one_is : el p r.one ≡ more₃_less₁ (Z p) (el p 0) (el p w.k) (el p (get_or n 0 0)) (el p w.l) (el p (get_or n 3 0)) (el p (get_or n 4 0)) (el p w.s0) (el p w.s) (el p w.r0)
  pub x_is : el p r.x ≡ more₂_less₁ (Z p) ((Z p).neg ((Z p).add (el p w.a0) (el p w.r0))) (el p w.k) (el p (get_or n 1 0)) (el p w.l) (el p (get_or n 4 0)) (el p w.s) (el p w.r1)
  pub y_is : el p r.y ≡ more₂_less₁ (Z p) (el p w.s0) (el p w.k) (el p (get_or n 2 0)) (el p w.l) (el p (get_or n 5 0)) (el p w.s) (el p w.r2)

pub record DoubleMatrix (p : ℕ) (o : Lower) (n : List ℕ) (r : List (List ℕ)) : Type 0 where
  pub w : Parts
  pub a : Column
  pub b : Column
  pub c : Column
  pub d : Column
  pub e : Column
  pub rows : r ≡ rows_of a b c d e
  pub w_is : PartsOf p o n w
  pub a_is : FirstTwin p o n w a
  pub b_is : SecondTwin p o n w b
  pub c_is : ThirdTwin p o n w c
  pub d_is : Shifted p a n d
  pub e_is : Shifted p b n e
