-- The columns of the matrix that the code makes are columns: the coordinates of elements modulo the ideal of a divisor.
--   lower-is               the coefficients of y³ that the code reads
--   shifted_is             the column of x·w from that of w
--   Columns, columns       five columns: those of w 0, w 1, w 2, x·w 0, x·w 1, and their first three by formulas
--   sum_columns, double_columns    those of a sum and of a double
use mathlib.Core.Path.{◌≡◌, sym, ◌∙◌, ap}
use mathlib.Core.List.{List}
use Prim.Native.Nat.{ℕ, zero, suc, ◌≤◌}
use native.Mathlib.Omega.{arith}
use lib.ListN.{get_or}
use Rattle.algebra.specs.Ring.{CommRing, ops}
use Rattle.algebra.proofs.Laws.{zero-add}
use Rattle.field.specs.Residue.{Z, el}
use Rattle.field.proofs.Element.{el-zero}
use Rattle.curve.specs.Curve.{Curve, Coordinate, x}
use Rattle.curve.specs.Curve as K
use Rattle.curve.specs.Pole.{pole}
use Rattle.divisor.specs.Kind.{k31}
use Rattle.divisor.proofs.Table.{class_by}
use Rattle.divisor.proofs.Members.{member}
use Rattle.invertible.proofs.Value.{at}
use Rattle.invertible.proofs.Adjugate.{q}
use Rattle.columns.proofs.Column.{IsColumn, column_cong}
use Rattle.columns.proofs.Formulas.{shift, difference-column, shift-column, square-column}
use Rattle.columns.specs.Pivots.{determinant, difference, square}
use Rattle.barrett.specs.Contract.{more₁}
use Rattle.chains.specs.Contract.{more₂, more₁_less₁, more₂_less₁, more₃_less₁}
use Rattle.vector.proofs.Element.{element-at}
use Rattle.multiplication.specs.Contract.{Cube}
use Rattle.equation.proofs.Vectors.{vector-cube, cube-at}
use Rattle.basis.specs.declared.Divisor.{Divisor}
use Rattle.basis.specs.Divisor.{numbers_of, residues}
use Rattle.matrix.specs.declared.Column.{Column}
use Rattle.matrix.specs.Matrix.{residues_of}
use Rattle.entries.specs.declared.Lower.{Lower}
use Rattle.entries.specs.Contract.{lower_of, Shifted, SumMatrix, PartsOf, DoubleMatrix}
use Rattle.usual.specs.Contract.{IsLower}
use Rattle.usual.proofs.Twins.{a-part, r1-part, r2-part, t-part, s0-part, r0-part, k-part, l-part, twin, twin_equals}

pub lower-is : {p : ℕ} {C : Curve (Z p)} {y3 : List ℕ} → Cube p C y3 → IsLower p C (lower_of y3)
lower-is {p} {C} {y3} h = record {
  n6_is = coefficient 2 0 (omega arith);
  n7_is = coefficient 1 1 (omega arith);
  n8_is = coefficient 0 2 (omega arith);
  n9_is = coefficient 3 0 (omega arith);
  n10_is = coefficient 2 1 (omega arith);
  n11_is = coefficient 1 2 (omega arith);
  n12_is = coefficient 4 0 (omega arith);
}
  where
    coefficient : (i j : ℕ) → j ≤ 2 → el p (get_or y3 (pole i j) 0) ≡ get_or (vector-cube C) (pole i j) (Z p).zero
    coefficient i j l = sym (element-at p C y3 i j l) ∙ ap (K.at C i j) h.is ∙ sym (cube-at C i j l)

module _ (p : ℕ) (C : Curve (Z p)) where
  abbrev R : CommRing
  R = Z p

  from_zero : (e f : R.Car) → e ≡ R.add (el p 0) f → f ≡ e
  from_zero e f h = sym (h ∙ ap (λ z. R.add z f) (el-zero p) ∙ zero-add R f)

  pub shifted_is : (m : Divisor) {v r : Column} {w : (Coordinate C).Car} → Shifted p v (numbers_of m) r → IsColumn C (residues p m) w (residues_of p v)
      → IsColumn C (residues p m) ((Coordinate C).mul (x C) w) (residues_of p r)
  shifted_is m {v} {r} h c =
      column_cong C (residues p m)
      (class_by (λ i. shift (ops R) (residues p m) (residues_of p v) i ≡ residues_of p r i) (from_zero _ _ h.one_is) (sym h.x_is) (from_zero _ _ h.y_is)) (shift-column C (residues p m) c)

-- three entries by place
abbrev entries : {A : Type 0} → A → A → A → ℕ → A
entries u v w zero = u
entries u v w (suc zero) = v
entries u v w (suc (suc i)) = w

-- columns a, b, c that have the entries of f, and are columns of w 0, w 1, w 2; d of x·w 0 and e of x·w 1
pub record Columns (p : ℕ) (C : Curve (Z p)) (m : Divisor) (w : ℕ → (Coordinate C).Car) (f : ℕ → ℕ → (Z p).Car) (a b c d e : Column) : Type 0 where
  pub a_is : IsColumn C (residues p m) (w 0) (residues_of p a)
  pub b_is : IsColumn C (residues p m) (w 1) (residues_of p b)
  pub c_is : IsColumn C (residues p m) (w 2) (residues_of p c)
  pub d_is : IsColumn C (residues p m) ((Coordinate C).mul (x C) (w 0)) (residues_of p d)
  pub e_is : IsColumn C (residues p m) ((Coordinate C).mul (x C) (w 1)) (residues_of p e)
  pub pivot_is : determinant (ops (Z p)) (residues_of p a) (residues_of p b) (residues_of p c) ≡ determinant (ops (Z p)) (f 0) (f 1) (f 2)

module _ (p : ℕ) (C : Curve (Z p)) (m : Divisor) (w : ℕ → (Coordinate C).Car) (f : ℕ → ℕ → (Z p).Car) (column : (j : ℕ) → j ≤ 2 → IsColumn C (residues p m) (w j) (f j)) where
  -- the entries of a column of the code
  abbrev Has : ℕ → Column → Type 0
  Has j r = (el p r.one ≡ f j 0) × ((el p r.x ≡ f j 1) × (el p r.y ≡ f j 2))

  has-column : (j : ℕ) → j ≤ 2 → (r : Column) → Has j r → IsColumn C (residues p m) (w j) (residues_of p r)
  has-column j l r (h0, (h1, h2)) = column_cong C (residues p m) (class_by (λ i. f j i ≡ residues_of p r i) (sym h0) (sym h1) (sym h2)) (column j l)

  pub columns : {a b c d e : Column} → Has 0 a → Has 1 b → Has 2 c → Shifted p a (numbers_of m) d → Shifted p b (numbers_of m) e → Columns p C m w f a b c d e
  columns {a} {b} {c} (a0, (a1, a2)) (b0, (b1, b2)) (c0, (c1, c2)) hd he = record {
    a_is = ia;
    b_is = ib;
    c_is = has-column 2 (omega arith) _ (c0, (c1, c2));
    d_is = shifted_is p C m hd ia;
    e_is = shifted_is p C m he ib;
    pivot_is = λ t. determinant (ops (Z p)) (entries (a0 t) (a1 t) (a2 t)) (entries (b0 t) (b1 t) (b2 t)) (entries (c0 t) (c1 t) (c2 t));
  }
    where
      ia : IsColumn C (residues p m) (w 0) (residues_of p a)
      ia = has-column 0 (omega arith) _ (a0, (a1, a2))

      ib : IsColumn C (residues p m) (w 1) (residues_of p b)
      ib = has-column 1 (omega arith) _ (b0, (b1, b2))

pub sum_columns : (p : ℕ) (C : Curve (Z p)) (n m : Divisor) {r : List (List ℕ)} (S : SumMatrix p (numbers_of n) (numbers_of m) r)
    → Columns p C m (member C k31 (residues p n)) (difference (ops (Z p)) (residues p n) (residues p m)) S.a S.b S.c S.d S.e
sum_columns p C n m S =
    columns p C m (member C k31 (residues p n)) (difference (ops (Z p)) (residues p n) (residues p m)) (difference-column C (residues p m) (residues p n))
    (S.a_is.one_is, (S.a_is.x_is, S.a_is.y_is)) (S.b_is.one_is, (S.b_is.x_is, S.b_is.y_is)) (S.c_is.one_is, (S.c_is.x_is, S.c_is.y_is)) S.d_is S.e_is

module _ (p : ℕ) (C : Curve (Z p)) {o : Lower} (O : IsLower p C o) (n : Divisor) {r : List (List ℕ)} (S : DoubleMatrix p o (numbers_of n) r) where
  abbrev F : CommRing
  F = Z p

  abbrev N : ℕ → F.Car
  N = residues p n

  abbrev W : PartsOf p o (numbers_of n) S.w
  W = S.w_is

  abbrev at-curve : {A : Type 0} → (F.Car → F.Car → F.Car → F.Car → F.Car → F.Car → F.Car → (ℕ → F.Car) → A) → A
  at-curve f = f C.a0 C.c3 C.c4 C.c5 C.c6 C.c7 C.c8 N

  a0_is : el p S.w.a0 ≡ at-curve (a-part (ops F)) 0
  a0_is = W.a0_is ∙ (λ t. F.mul (O.n12_is t) (N 0))

  a1_is : el p S.w.a1 ≡ at-curve (a-part (ops F)) 1
  a1_is = W.a1_is ∙ (λ t. F.mul (O.n12_is t) (N 1))

  a2_is : el p S.w.a2 ≡ at-curve (a-part (ops F)) 2
  a2_is = W.a2_is ∙ (λ t. F.mul (O.n12_is t) (N 2))

  r1_is : el p S.w.r1 ≡ at-curve (r1-part (ops F))
  r1_is = W.r1_is ∙ (λ t. F.add (a1_is t) (F.neg (O.n9_is t)))

  r2_is : el p S.w.r2 ≡ at-curve (r2-part (ops F))
  r2_is = W.r2_is ∙ (λ t. F.add (a2_is t) (F.neg (O.n10_is t)))

  t_is : el p S.w.t ≡ at-curve (t-part (ops F))
  t_is = W.t_is ∙ (λ t. more₁ F (F.add (O.n8_is t) (N 8)) (N 2) (r2_is t))

  s0_is : el p S.w.s0 ≡ at-curve (s0-part (ops F))
  s0_is = W.s0_is ∙ (λ t. more₂_less₁ F (F.add (O.n7_is t) (N 7)) (N 2) (r1_is t) (N 1) (r2_is t) (O.n11_is t) (N 8))

  r0_is : el p S.w.r0 ≡ at-curve (r0-part (ops F))
  r0_is = W.r0_is ∙ (λ t. more₁_less₁ F (F.add (a0_is t) (F.neg (O.n6_is t))) (O.n11_is t) (N 7) (N 1) (r1_is t))

  k_is : el p S.w.k ≡ at-curve (k-part (ops F))
  k_is = W.k_is ∙ (λ t. more₁ F (r1_is t) (O.n12_is t) (N 5))

  l_is : el p S.w.l ≡ at-curve (l-part (ops F))
  l_is = W.l_is ∙ (λ t. F.add (r2_is t) (a2_is t))

  equals : (j : ℕ) → j ≤ 2 → (i : ℕ) → i ≤ 2 → at-curve (twin (ops F)) j i ≡ at-curve (square (ops F)) j i
  equals = twin_equals F C.a0 C.c3 C.c4 C.c5 C.c6 C.c7 C.c8 N

  pub double_columns : Columns p C n (λ j. at C N (q j)) (at-curve (square (ops F))) S.a S.b S.c S.d S.e
  double_columns =
      columns p C n (λ j. at C N (q j)) (at-curve (square (ops F))) (square-column C N) (
        S.a_is.one_is ∙ (λ t. more₂_less₁ F (F.neg (N 3)) (N 2) (s0_is t) (O.n11_is t) (N 0) (W.s_is t) (t_is t)) ∙ equals 0 (omega arith) 0 (omega arith),
        (
          S.a_is.x_is ∙ (λ t. more₁ F (F.neg (F.add (t_is t) (N 4))) (O.n11_is t) (N 5)) ∙ equals 0 (omega arith) 1 (omega arith),
          S.a_is.y_is ∙ (λ t. more₁ F (F.add (W.s_is t) (F.neg (N 5))) (O.n11_is t) (N 2)) ∙ equals 0 (omega arith) 2 (omega arith),
        ),
      ) (
        S.b_is.one_is ∙ (λ t. more₂_less₁ F (F.neg (N 6)) (N 2) (F.add (r0_is t) (a0_is t)) (O.n11_is t) (N 3) (N 4) (t_is t)) ∙ equals 1 (omega arith) 0 (omega arith),
        (
          S.b_is.x_is ∙ (λ t. more₁ F (F.neg (N 7)) (N 2) (F.add (r1_is t) (a1_is t))) ∙ equals 1 (omega arith) 1 (omega arith),
          S.b_is.y_is ∙ (λ t. more₂ F (F.add (N 4) (F.neg (F.add (t_is t) (N 8)))) (N 2) (l_is t) (O.n11_is t) (N 5)) ∙ equals 1 (omega arith) 2 (omega arith),
        ),
      ) (
        S.c_is.one_is ∙ (λ t. more₃_less₁ F (el-zero p t) (k_is t) (N 0) (l_is t) (N 3) (N 4) (s0_is t) (W.s_is t) (r0_is t)) ∙ equals 2 (omega arith) 0 (omega arith),
        (
          S.c_is.x_is ∙ (λ t. more₂_less₁ F (F.neg (F.add (a0_is t) (r0_is t))) (k_is t) (N 1) (l_is t) (N 4) (W.s_is t) (r1_is t)) ∙ equals 2 (omega arith) 1 (omega arith),
          S.c_is.y_is ∙ (λ t. more₂_less₁ F (s0_is t) (k_is t) (N 2) (l_is t) (N 5) (W.s_is t) (r2_is t)) ∙ equals 2 (omega arith) 2 (omega arith),
        ),
      )
      S.d_is S.e_is
