-- Formulas on a curve and a list of numbers, as expressions of the ring solver: polynomials in x, y and letters for the coefficients and the numbers.
--   x, y, a0, c i, n i     the letters: x, y, the curve's coefficients, the numbers
--   _⊝_                    differences
--   F                      the equation of the curve
--   derivative v e         the formal derivative of e by the letter v
--   origin e               e at x = y = 0
use Prim.Native.Nat.{ℕ, zero, suc, ◌+◌}
use lib.Dec.{eqb}
use Rattle.algebra.proofs.Norm.{E, var, num, nil, unit, sum, prod, opp, pow, E-ops}
use Rattle.algebra.proofs.Solve.{◌⊞◌, ◌⊠◌, ⊟◌, ◌^^◌}
use Rattle.curve.specs.Sequence.{pick}
use Rattle.curve.proofs.Equation.{F-at}

infixl 60 ◌⊝◌
abbrev pub ◌⊝◌ : E → E → E
a ⊝ b = a ⊞ ⊟ b

abbrev pub x : E
x = var 0

abbrev pub y : E
y = var 1

abbrev pub a0 : E
a0 = var 2

abbrev pub c : ℕ → E
c i = var (3 + i)

abbrev pub n : ℕ → E
n i = var (12 + i)

abbrev pub F : E
F = F-at E-ops x y a0 (c 0) (c 1) (c 2) (c 3) (c 4) (c 5) (c 6) (c 7) (c 8)

-- That these rules are right needs no proof: the solver tests what they give.
abbrev pub derivative : ℕ → E → E
derivative v (var i) = pick (eqb v i) unit nil
derivative v (num m) = nil
derivative v nil = nil
derivative v unit = nil
derivative v (sum a b) = derivative v a ⊞ derivative v b
derivative v (prod a b) = derivative v a ⊠ b ⊞ a ⊠ derivative v b
derivative v (opp a) = ⊟ derivative v a
derivative v (pow a zero) = nil
derivative v (pow a (suc m)) = num (suc m) ⊠ a ^^ m ⊠ derivative v a

abbrev pub origin : E → E
origin (var zero) = nil
origin (var (suc zero)) = nil
origin (var (suc (suc i))) = var (suc (suc i))
origin (num m) = num m
origin nil = nil
origin unit = unit
origin (sum a b) = origin a ⊞ origin b
origin (prod a b) = origin a ⊠ origin b
origin (opp a) = ⊟ origin a
origin (pow a m) = origin a ^^ m
