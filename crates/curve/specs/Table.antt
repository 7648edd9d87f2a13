-- The constant table of normal monomials of pole number up to 25, by pole number. At place n stands the normal monomial x^i·y^j of pole number n:
-- in y_powers its power of y, which is j, and in x_poles the pole number of its power of x, which is 3·i. At a gap stand 3 and 0. Document 01:
-- "constant table of normal monomials with pole numbers". The code holds it as MONOMIALS of crate terms.
--   y_powers, x_poles  the table
--   y_at n, x_at n     its entry at n
use Rattle.std.specs.Prelude.{List, [], ◌∷◌, ℕ, get_or}

abbrev pub y_powers : List ℕ
y_powers =
    0 ∷ 3 ∷ 3 ∷ 0 ∷ 1 ∷ 3 ∷ 0 ∷ 1 ∷ 2 ∷ 0 ∷ 1 ∷ 2 ∷ 0 ∷ 1 ∷ 2 ∷ 0 ∷ 1 ∷ 2 ∷ 0 ∷ 1 ∷ 2 ∷ 0 ∷ 1 ∷ 2 ∷ 0 ∷ 1 ∷ []

abbrev pub x_poles : List ℕ
x_poles =
    0 ∷ 0 ∷ 0 ∷ 3 ∷ 0 ∷ 0 ∷ 6 ∷ 3 ∷ 0 ∷ 9 ∷ 6 ∷ 3 ∷ 12 ∷ 9 ∷ 6 ∷ 15 ∷ 12 ∷ 9 ∷ 18 ∷ 15 ∷ 12 ∷ 21 ∷ 18 ∷ 15 ∷ 24 ∷ 21 ∷ []

abbrev pub y_at : ℕ → ℕ
y_at n = get_or y_powers n 0

abbrev pub x_at : ℕ → ℕ
x_at n = get_or x_poles n 0
