-- What the functions on matrices require and ensure. The columns of a matrix are a, b, c, d, e.
--   TwoColumns p a b, FourColumns p v a b c        the entries of the columns are below p, and p is below 2^31
--   Crossed p a b r        crossed: r is the vector product
--   Coordinates p v a b c r        coordinates: the scalar products of v with a, b and c
--   Combines R a b c s z d z·d = s0·a + s1·b + s2·c
--   Cleared p m r          cleared: r is z times the row-reduced form of m, z the determinant of a, b, c
--   TimesAsked, Times      times: u times a column
--   RowReduced p m r       r is the row-reduced form of m: its first three columns are the unit columns, and its last two combine a, b, c to d and to e
--   RowReducedAsked, RowReducedOf  row_reduced: r is the row-reduced form of each matrix of which c is z times this form, u the inverse of z
use Rattle.std.specs.Prelude.{◌≡◌, List, ℕ, ◌<◌}
use Rattle.algebra.specs.Ring.{CommRing, ops}
use Rattle.columns.specs.Pivots.{determinant}
use Rattle.field.specs.Residue.{Z, el}
use Rattle.field.specs.Contract.{Is}
use Rattle.barrett.specs.Contract.{dot₃, cross₂}
use Rattle.matrix.specs.declared.Column.{Column}
use Rattle.matrix.specs.Matrix.{entry, column_at, column, rows_of, ColumnBelow, residues_of}

pub record TwoColumns (p : ℕ) (a b : Column) : Type 0 where
  pub small : p < 2147483648
  pub a_below : ColumnBelow p a
  pub b_below : ColumnBelow p b

pub record FourColumns (p : ℕ) (v a b c : Column) : Type 0 where
  pub small : p < 2147483648
  pub v_below : ColumnBelow p v
  pub a_below : ColumnBelow p a
  pub b_below : ColumnBelow p b
  pub c_below : ColumnBelow p c

pub record Crossed (p : ℕ) (a b r : Column) : Type 0 where
  pub below : ColumnBelow p r
  pub one : el p r.one ≡ cross₂ (Z p) (el p a.x) (el p b.y) (el p a.y) (el p b.x)
  pub x : el p r.x ≡ cross₂ (Z p) (el p a.y) (el p b.one) (el p a.one) (el p b.y)
  pub y : el p r.y ≡ cross₂ (Z p) (el p a.one) (el p b.x) (el p a.x) (el p b.one)

abbrev pub scalar : (p : ℕ) → Column → Column → (Z p).Car
scalar p a b = dot₃ (Z p) (el p a.one) (el p b.one) (el p a.x) (el p b.x) (el p a.y) (el p b.y)

pub record Coordinates (p : ℕ) (v a b c r : Column) : Type 0 where
  pub below : ColumnBelow p r
  pub one : el p r.one ≡ scalar p v a
  pub x : el p r.x ≡ scalar p v b
  pub y : el p r.y ≡ scalar p v c

module _ (R : CommRing) where
  abbrev pub Combines : (a b c s : ℕ → R.Car) → R.Car → (ℕ → R.Car) → Type 0
  Combines a b c s z d = (i : ℕ) → R.mul z (d i) ≡ dot₃ R (s 0) (a i) (s 1) (b i) (s 2) (c i)

module _ (p : ℕ) where
  -- the j-th column of m, as residues
  abbrev pub column_residues : List (List ℕ) → ℕ → ℕ → (Z p).Car
  column_residues m j = residues_of p (column_at m j)

  pub record Cleared (m r : List (List ℕ)) : Type 0 where
    pub z : ℕ
    pub d : Column
    pub e : Column
    pub rows : r ≡ rows_of (column z 0 0) (column 0 z 0) (column 0 0 z) d e
    pub z_is : Is p z (determinant (ops (Z p)) (column_residues m 0) (column_residues m 1) (column_residues m 2))
    pub d_below : ColumnBelow p d
    pub e_below : ColumnBelow p e
    pub d_is : Combines (Z p) (column_residues m 0) (column_residues m 1) (column_residues m 2) (residues_of p d) (el p z) (column_residues m 3)
    pub e_is : Combines (Z p) (column_residues m 0) (column_residues m 1) (column_residues m 2) (residues_of p e) (el p z) (column_residues m 4)

  pub record RowReduced (m r : List (List ℕ)) : Type 0 where
    pub d : Column
    pub e : Column
    pub rows : r ≡ rows_of (column 1 0 0) (column 0 1 0) (column 0 0 1) d e
    pub d_below : ColumnBelow p d
    pub e_below : ColumnBelow p e
    pub d_is : Combines (Z p) (column_residues m 0) (column_residues m 1) (column_residues m 2) (residues_of p d) (Z p).one (column_residues m 3)
    pub e_is : Combines (Z p) (column_residues m 0) (column_residues m 1) (column_residues m 2) (residues_of p e) (Z p).one (column_residues m 4)

  pub record TimesAsked (v : Column) (u : ℕ) : Type 0 where
    pub small : p < 2147483648
    pub v_below : ColumnBelow p v
    pub u_below : u < p

  pub record Times (v : Column) (u : ℕ) (r : Column) : Type 0 where
    pub below : ColumnBelow p r
    pub one : el p r.one ≡ (Z p).mul (el p v.one) (el p u)
    pub x : el p r.x ≡ (Z p).mul (el p v.x) (el p u)
    pub y : el p r.y ≡ (Z p).mul (el p v.y) (el p u)

  pub record RowReducedAsked (c : List (List ℕ)) (u : ℕ) : Type 0 where
    pub small : p < 2147483648
    pub d_below : ColumnBelow p (column_at c 3)
    pub e_below : ColumnBelow p (column_at c 4)
    pub u_below : u < p

  abbrev pub RowReducedOf : (c : List (List ℕ)) (u : ℕ) (r : List (List ℕ)) → Type 0
  RowReducedOf c u r = (m : List (List ℕ)) → Cleared m c → (Z p).mul (el p (entry c 0 0)) (el p u) ≡ (Z p).one → RowReduced m r
