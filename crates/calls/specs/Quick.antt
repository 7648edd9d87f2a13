-- Document 02, 2026-08: where the formulas of source document 000, section 6, serve for the sum of two accepted records a and b on the accepted curve c. Everything here but
-- the determinant is the request's own condition; the determinant stands for "a pivot is zero": pivots that are not zero can be chosen exactly if it is not zero, so the
-- program's choice of pivots does not show.
--   Typical w          w has the kind 31, and its third number, f2, is not zero
--   Short c            p is above 3, and c5, c6 and c8 are zero
--   Pivots c a b       the determinant of the first three columns of the matrix is not zero: of the matrix for the sum, and for equal records of that for the double
--   Serves c a b       the formulas serve: all that, and the sum is typical
use Rattle.std.specs.Prelude.{◌≡◌, List, ℕ, ◌<◌}
use Rattle.field.specs.Residue.{Z}
use Rattle.layout.specs.Layout.{number2, number4}
use Rattle.divisor.specs.Kind.{k31}
use Rattle.columns.specs.Pivots.{pivot_sum, pivot_double}
use Rattle.record.specs.Curve.{modulus, coefficient_number, equation}
use Rattle.record.specs.Divisor.{OfKind, number_at}
use Rattle.calls.specs.Class.{IsSum}

pub record Typical (w : List ℕ) : Type 0 where
  pub kind : OfKind w k31
  pub second : ¬ (number4 w 12 ≡ 0)

-- "a curve with c5, c6 and c8 zero and p above 3"
pub record Short (c : List ℕ) : Type 0 where
  pub large : 3 < modulus c
  pub c5 : coefficient_number c 5 ≡ 0
  pub c6 : coefficient_number c 6 ≡ 0
  pub c8 : coefficient_number c 8 ≡ 0

pub record Pivots (c a b : List ℕ) : Type 0 where
  pub different : ¬ (a ≡ b) → ¬ (pivot_sum (Z (modulus c)) (number_at (modulus c) a) (number_at (modulus c) b) ≡ (Z (modulus c)).zero)
  pub equal : a ≡ b → ¬ (pivot_double (equation c) (number_at (modulus c) a) ≡ (Z (modulus c)).zero)

-- "Where a pivot or an f2 is zero, a record isn't of kind 31, or the curve has another form, the call falls back": the f2 are those of the two records and of their sum.
pub record Serves (c a b : List ℕ) : Type 0 where
  pub short : Short c
  pub a_typical : Typical a
  pub b_typical : Typical b
  pub pivots : Pivots c a b
  pub sum_typical : (w : List ℕ) → IsSum c a b w → Typical w
