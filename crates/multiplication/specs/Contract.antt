-- What the functions on multiples of vectors by powers of y require and ensure.
--   Cube p C y3               y3 is the vector of y³
--   TimesYAsked, TimesY       times_y: y·v
--   YMultiplesAsked, YMultiples       y_multiples: v, y·v and y²·v
--   ShiftAsked, Shifted       shift_y: v[n] at the place n + 4, for each n of the classes 0 and 1 modulo 3
use Rattle.std.specs.Prelude.{◌≡◌, List, ℕ, ◌+◌, ◌%◌, ◌<◌, ◌≤◌, length}
use Rattle.field.specs.Residue.{Z}
use Rattle.curve.specs.Curve.{Curve, Coordinate, y}
use Rattle.vector.specs.Vector.{Vec, Top, at, element, width}
use Rattle.terms.specs.Contract.{Rows, RowsOf}

-- y3 is the vector of y³
pub record Cube (p : ℕ) (C : Curve (Z p)) (y3 : List ℕ) : Type 0 where
  pub is : element p C y3 ≡ (Coordinate C).mul (y C) ((Coordinate C).mul (y C) (y C))

pub record TimesYAsked (p : ℕ) (y3 v : List ℕ) (top : ℕ) : Type 0 where
  pub y3_vec : Vec p y3
  pub y3_top : Top y3 13
  pub v_vec : Vec p v
  pub v_top : Top v top
  pub room : top ≤ 22

pub record TimesY (p : ℕ) (y3 v : List ℕ) (top : ℕ) (r : List ℕ) : Type 0 where
  pub vec : Vec p r
  pub top_out : Top r (top + 4)
  pub value : (C : Curve (Z p)) → Cube p C y3 → element p C r ≡ (Coordinate C).mul (y C) (element p C v)

pub record YMultiplesAsked (p : ℕ) (y3 v : List ℕ) (top : ℕ) : Type 0 where
  pub y3_vec : Vec p y3
  pub y3_top : Top y3 13
  pub v_vec : Vec p v
  pub v_top : Top v top
  pub room : top ≤ 18

pub record YMultiples (p : ℕ) (y3 v : List ℕ) (top : ℕ) (ys : List (List ℕ)) : Type 0 where
  pub rows : Rows p ys top
  pub value : (C : Curve (Z p)) → Cube p C y3 → RowsOf p C ys (element p C v)

pub record ShiftAsked (v : List ℕ) (top : ℕ) : Type 0 where
  pub room : top + 4 ≤ width

pub record Shifted (v : List ℕ) (top : ℕ) (r : List ℕ) : Type 0 where
  pub len : length r ≡ width
  pub low : (n : ℕ) → n < 4 → at r n ≡ 0
  pub moved : (n : ℕ) → n < top → n % 3 < 2 → at r (n + 4) ≡ at v n
  pub dropped : (n : ℕ) → n % 3 ≡ 2 → at r (n + 4) ≡ 0
  pub high : (n : ℕ) → top ≤ n → at r (n + 4) ≡ 0
