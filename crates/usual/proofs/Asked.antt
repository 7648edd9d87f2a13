-- What the functions on matrices are asked for, and what is tried.
--   lower_below, numbers_below     the numbers of the ground and of a divisor are below p
--   matrix_below           the entries of the matrix are
--   matrix_tried           what is tried of two divisors
use mathlib.Core.Path.{◌≡◌, sym, subst}
use mathlib.Core.Logic.{inl, inr}
use mathlib.Core.List.{List}
use Rattle.std.specs.Prelude.{Option}
use Prim.Native.Nat.{ℕ, zero, suc, ◌<◌}
use native.Mathlib.Omega.{arith}
use Rattle.divisor.specs.Kind.{k31}
use Rattle.vector.specs.Vector.{Vec}
use Rattle.ground.specs.declared.Ground.{Ground}
use Rattle.basis.specs.declared.Divisor.{Divisor}
use Rattle.basis.specs.Divisor.{numbers_of, Shaped}
use Rattle.matrix.specs.declared.Column.{Column}
use Rattle.matrix.specs.Matrix.{column_at, rows_of, ColumnBelow, MatrixBelow}
use Rattle.entries.specs.declared.Lower.{Lower}
use Rattle.entries.specs.Contract.{lower_of, NumbersBelow, LowerBelow, SumMatrix, DoubleMatrix}
use Rattle.usual.specs.Contract.{MatrixOf, SolvedOf}
use Rattle.usual.specs.Trial.{TriedOf}
use Rattle.usual.proofs.Served as served

pub lower_below : {p : ℕ} {y3 : List ℕ} {o : Lower} → p < 2147483648 → Vec p y3 → o ≡ lower_of y3 → LowerBelow p o
lower_below {p} {y3} small v e =
    subst (LowerBelow p) (sym e)
    (record { small = small; n6 = v.below 6; n7 = v.below 7; n8 = v.below 8; n9 = v.below 9; n10 = v.below 10; n11 = v.below 11; n12 = v.below 12 })

pub numbers_below : {p : ℕ} {r : Divisor} → p < 2147483648 → Shaped p k31 r → NumbersBelow p (numbers_of r)
numbers_below small s =
    record { small = small; n0 = s.below 0; n1 = s.below 1; n2 = s.below 2; n3 = s.below 3; n4 = s.below 4; n5 = s.below 5; n6 = s.below 6; n7 = s.below 7; n8 = s.below 8 }

rows-below : {p : ℕ} {m : List (List ℕ)} {a b c d e : Column} → p < 2147483648 → m ≡ rows_of a b c d e → ColumnBelow p a → ColumnBelow p b → ColumnBelow p c → ColumnBelow p d → ColumnBelow p e → MatrixBelow p m
rows-below {p} {m} {a} {b} {c} {d} {e} small q ha hb hc hd he = subst (MatrixBelow p) (sym q) (record { small = small; below = go })
  where
    go : (j : ℕ) → j < 5 → ColumnBelow p (column_at (rows_of a b c d e) j)
    go zero l = ha
    go (suc zero) l = hb
    go (suc (suc zero)) l = hc
    go (suc (suc (suc zero))) l = hd
    go (suc (suc (suc (suc zero)))) l = he
    go (suc (suc (suc (suc (suc j))))) l = absurd (omega arith)

sum_below : {p : ℕ} {n m : List ℕ} {r : List (List ℕ)} → p < 2147483648 → SumMatrix p n m r → MatrixBelow p r
sum_below small s = rows-below small s.rows s.a_is.below s.b_is.below s.c_is.below s.d_is.below s.e_is.below

double-below : {p : ℕ} {o : Lower} {n : List ℕ} {r : List (List ℕ)} → p < 2147483648 → DoubleMatrix p o n r → MatrixBelow p r
double-below small s = rows-below small s.rows s.a_is.below s.b_is.below s.c_is.below s.d_is.below s.e_is.below

pub matrix_below : {p : ℕ} {o : Lower} (a b : Divisor) {r : List (List ℕ)} → p < 2147483648 → MatrixOf p o a b r → MatrixBelow p r
matrix_below a b small (inl (_, s)) = double-below small s
matrix_below a b small (inr (_, s)) = sum_below small s

module _ {g : Ground} {a b : Divisor} {o : Lower} (e : o ≡ lower_of g.cube) {m : List (List ℕ)} {r : Option Divisor} where
  sum-tried : ¬ (numbers_of a ≡ numbers_of b) → SumMatrix g.p (numbers_of a) (numbers_of b) m → SolvedOf g.p o a m r → TriedOf g a b r
  sum-tried d M h A = served.tried-sum A d M (subst (λ l. SolvedOf g.p l a m r) e h)

  double-tried : numbers_of a ≡ numbers_of b → DoubleMatrix g.p o (numbers_of a) m → SolvedOf g.p o a m r → TriedOf g a b r
  double-tried d M h A =
      served.tried-double A d (subst (λ l. DoubleMatrix g.p l (numbers_of a) m) e M) (subst (λ l. SolvedOf g.p l a m r) e h)

  tried-at : MatrixOf g.p o a b m → SolvedOf g.p o a m r → TriedOf g a b r
  tried-at (inl (d, M)) h = double-tried d M h
  tried-at (inr (d, M)) h = sum-tried d M h

  pub matrix_tried : {p : ℕ} → p ≡ g.p → MatrixOf p o a b m → SolvedOf p o a m r → TriedOf g a b r
  matrix_tried q M h = tried-at (subst (λ p. MatrixOf p o a b m) q M) (subst (λ p. SolvedOf p o a m r) q h)
