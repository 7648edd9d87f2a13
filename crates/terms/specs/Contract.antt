-- What the product of two vectors requires and ensures.
--   Rows p ys top             three vectors, the j-th below top + 4·j
--   RowsOf p C ys g           … which stand for g, y·g and y²·g
--   TimesAsked, Times         times: b·g from the y-multiples of g
use Rattle.std.specs.Prelude.{◌≡◌, List, ℕ, ◌+◌, ◌*◌, ◌-◌, ◌<◌, ◌≤◌, length}
use Rattle.field.specs.Residue.{Z}
use Rattle.curve.specs.Curve.{Curve, Coordinate}
use Rattle.vector.specs.Vector.{Vec, Top, row, element, y_to, width}

-- three vectors, the j-th below top + 4·j
pub record Rows (p : ℕ) (ys : List (List ℕ)) (top : ℕ) : Type 0 where
  pub len : length ys ≡ 3
  pub vec : (j : ℕ) → j < 3 → Vec p (row ys j)
  pub tops : (j : ℕ) → j < 3 → Top (row ys j) (top + 4 * j)

-- the j-th vector is y^j·g
pub record RowsOf (p : ℕ) (C : Curve (Z p)) (ys : List (List ℕ)) (g : (Coordinate C).Car) : Type 0 where
  pub is : (j : ℕ) → j < 3 → element p C (row ys j) ≡ (Coordinate C).mul (y_to p C j) g

pub record TimesAsked (p : ℕ) (b : List ℕ) (e : ℕ) (ys : List (List ℕ)) (top : ℕ) : Type 0 where
  pub b_vec : Vec p b
  pub b_top : Top b e
  pub rows : Rows p ys top
  pub inside : e ≤ width
  pub room : e + top ≤ 27

pub record Times (p : ℕ) (b : List ℕ) (e : ℕ) (ys : List (List ℕ)) (top : ℕ) (r : List ℕ) : Type 0 where
  pub vec : Vec p r
  pub top_out : Top r (e + top - 1)
  pub value : (C : Curve (Z p)) (g : (Coordinate C).Car) → RowsOf p C ys g → element p C r ≡ (Coordinate C).mul (element p C b) g
