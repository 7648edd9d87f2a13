-- Pole numbers of normal monomials.
--   pole i j           the pole number 3i + 4j of x^i·y^j
--   x_power n, y_power n           the exponents i and j ≤ 2 of the normal monomial of pole number n
use Rattle.std.specs.Prelude.{ℕ, ◌+◌, ◌*◌, ◌-◌, ◌/◌, ◌%◌}

-- Document 01: "The pole number of x^i·y^j is 3i + 4j."
abbrev pub pole : ℕ → ℕ → ℕ
pole i j = 3 * i + 4 * j

abbrev pub y_power : ℕ → ℕ
y_power n = n % 3

abbrev pub x_power : ℕ → ℕ
x_power n = (n - 4 * (n % 3)) / 3
