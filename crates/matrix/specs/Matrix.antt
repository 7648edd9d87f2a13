-- Matrices of three rows of five numbers, as lists of rows.
--   entry m i j            the entry in row i and column j
--   column one x y         the column with these entries
--   column_at m j          the j-th column
--   rows_of a b c d e      the matrix with these columns
--   ColumnBelow p v        the entries of a column are below p
--   MatrixBelow p m        the entries of a matrix are below p, and p is below 2^31
--   residues_of p v        a column as residues modulo p: 0, 1, 2 for its entries in the rows of 1, of x and of y
use Rattle.std.specs.Prelude.{List, [], ◌∷◌, ℕ, zero, suc, ◌<◌, get_or}
use Rattle.field.specs.Residue.{Z, el}
use Rattle.matrix.specs.declared.Column.{Column}

abbrev pub entry : List (List ℕ) → ℕ → ℕ → ℕ
entry m i j = get_or (get_or m i []) j 0

abbrev pub column : ℕ → ℕ → ℕ → Column
column one x y = record { one = one; x = x; y = y }

abbrev pub column_at : List (List ℕ) → ℕ → Column
column_at m j = column (entry m 0 j) (entry m 1 j) (entry m 2 j)

abbrev pub rows_of : Column → Column → Column → Column → Column → List (List ℕ)
rows_of a b c d e =
    (a.one ∷ b.one ∷ c.one ∷ d.one ∷ e.one ∷ []) ∷ (a.x ∷ b.x ∷ c.x ∷ d.x ∷ e.x ∷ []) ∷ (a.y ∷ b.y ∷ c.y ∷ d.y ∷ e.y ∷ []) ∷ []

pub record ColumnBelow (p : ℕ) (v : Column) : Type 0 where
  pub one : v.one < p
  pub x : v.x < p
  pub y : v.y < p

pub record MatrixBelow (p : ℕ) (m : List (List ℕ)) : Type 0 where
  pub small : p < 2147483648
  pub below : (j : ℕ) → j < 5 → ColumnBelow p (column_at m j)

abbrev pub residues_of : (p : ℕ) → Column → ℕ → (Z p).Car
residues_of p v zero = el p v.one
residues_of p v (suc zero) = el p v.x
residues_of p v (suc (suc i)) = el p v.y
