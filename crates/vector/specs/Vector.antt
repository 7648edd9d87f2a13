-- Vectors: arrays of 26 residues modulo p, indexed by pole number, and the elements of the coordinate ring that they stand for.
-- Example: on a curve over the field of 5 elements x² + 3·y + 2 is the vector with 2 at 0, 3 at 4, 1 at 6 and 0 elsewhere.
--   width              26, the length of a vector
--   at v n             the number at place n, 0 past the end
--   res p v n          its residue modulo p
--   Vec p v            v is a vector: 26 numbers below p, 0 at the gaps 1, 2 and 5
--   Top v n            v is 0 from place n on
--   past_end           past the end the residue is zero
--   element p C v      the element of C's coordinate ring with the coefficient v[n] at the normal monomial of pole number n
--   row t j            the j-th vector of an array of vectors
--   x_to p C k, y_to p C j   powers of x and y
--   scalar p C c       the constant with the residue of c
use Rattle.std.specs.Prelude.{◌≡◌, List, [], ℕ, ◌<◌, ◌≤◌, length, get_or}
use Rattle.std.proofs.Common.{◌∙◌, ap}
use Rattle.std.proofs.Math.ListN.{get_or-eq_default}
use Rattle.field.specs.Residue.{Z, el}
use Rattle.field.proofs.Element.{el-zero}
use Rattle.curve.specs.Curve.{Curve, Coordinate, x, y, constant}
use Rattle.curve.specs.Sequence.{vector}
use Rattle.curve.specs.Monomial.{power}

abbrev pub width : ℕ
width = 26

abbrev pub at : List ℕ → ℕ → ℕ
at v n = get_or v n 0

abbrev pub res : (p : ℕ) → List ℕ → ℕ → (Z p).Car
res p v n = el p (at v n)

pub record Vec (p : ℕ) (v : List ℕ) : Type 0 where
  pub len : length v ≡ width
  pub below : (n : ℕ) → at v n < p
  pub gap_1 : at v 1 ≡ 0
  pub gap_2 : at v 2 ≡ 0
  pub gap_5 : at v 5 ≡ 0

abbrev pub Top : List ℕ → ℕ → Type 0
Top v n = (i : ℕ) → n ≤ i → at v i ≡ 0

abbrev pub row : List (List ℕ) → ℕ → List ℕ
row t j = get_or t j []

pub past_end : (p : ℕ) (v : List ℕ) (n : ℕ) → length v ≤ n → res p v n ≡ (Z p).zero
past_end p v n h = ap (el p) (get_or-eq_default v 0 h) ∙ el-zero p

unfoldable pub element : (p : ℕ) (C : Curve (Z p)) → List ℕ → (Coordinate C).Car
element p C v = vector C (res p v) (length v) (past_end p v)

abbrev pub x_to : (p : ℕ) (C : Curve (Z p)) → ℕ → (Coordinate C).Car
x_to p C k = power (Coordinate C) (x C) k

abbrev pub y_to : (p : ℕ) (C : Curve (Z p)) → ℕ → (Coordinate C).Car
y_to p C j = power (Coordinate C) (y C) j

abbrev pub scalar : (p : ℕ) (C : Curve (Z p)) → ℕ → (Coordinate C).Car
scalar p C c = constant C (el p c)
