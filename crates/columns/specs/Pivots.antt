-- The first three columns of the matrix of two records of kind 31 (source document 000, section 6), with rows for 1, x and y, and their determinant. The numbers of a
-- record are f0, f1, f2, g0, g1, g2, h0, h1, h2 in its order, n 0 to n 8 and m 0 to m 8.
--   determinant O a b c    the determinant of three columns
--   difference O n m j     the j-th column for a sum, Table 6.1: the numbers of f, g or h of n less those of m
--   R0, R1, R2, S0, T0, s, k, l    what the columns for a double share
--   square O a0 c3 … c8 n j        the j-th column for a double, Table 6.2 on any curve: the polynomials f~, g~, h~ of (4-1) modulo f, g, h, but for their sign
--   pivot_sum n m, pivot_double C n        the determinants of the three columns. Pivots that are not zero can be chosen exactly if the determinant is not zero.
use Rattle.std.specs.Prelude.{ℕ, zero, suc, ◌+◌, ◌*◌}
use Rattle.algebra.specs.Ring.{CommRing, Ops, ops}
use Rattle.curve.specs.Curve.{Curve}

module _ {A : Type 0} (O : Ops A) where
  abbrev ◌⊹◌ : A → A → A
  a ⊹ b = O.add a b

  abbrev ◌−◌ : A → A → A
  a − b = O.add a (O.neg b)

  abbrev ◌·◌ : A → A → A
  a · b = O.mul a b

  infixl 60 ◌⊹◌ ◌−◌
  infixl 70 ◌·◌
  abbrev pub determinant : (a b c : ℕ → A) → A
  determinant a b c = a 0 · (b 1 · c 2 − b 2 · c 1) ⊹ a 1 · (b 2 · c 0 − b 0 · c 2) ⊹ a 2 · (b 0 · c 1 − b 1 · c 0)

  -- a1 = f0 − f'0, a6 = f1 − f'1, a11 = f2 − f'2; a2 = g0 − g'0, …, a13 = h2 − h'2
  abbrev pub difference : (n m : ℕ → A) → ℕ → ℕ → A
  difference n m j i = n (3 * j + i) − m (3 * j + i)

  -- r'2 = R2, r'1 = R1, r'0 = R0, s'0 = S0, t'0 = T0, s0 = s; k and l are c6 − a0·(f1 + g2) and c7 − 2·a0·f2
  module _ (a0 c3 c4 c5 c6 c7 c8 : A) (n : ℕ → A) where
    abbrev pub R2 : A
    R2 = c7 − a0 · n 2

    abbrev pub R1 : A
    R1 = c6 − a0 · n 1

    abbrev pub R0 : A
    R0 = c3 − n 1 · R1 − c8 · n 7 − a0 · n 0

    abbrev pub S0 : A
    S0 = c4 − n 7 − n 2 · R1 − n 1 · R2 − c8 · n 8

    abbrev pub T0 : A
    T0 = c5 − n 8 − n 2 · R2

    abbrev pub s : A
    s = n 1 − n 5

    abbrev pub k : A
    k = R1 − a0 · n 5

    abbrev pub l : A
    l = R2 − a0 · n 2

    abbrev pub square : ℕ → ℕ → A
    square zero zero = s · T0 − n 2 · S0 − c8 · n 0 − n 3
    square zero (suc zero) = T0 − c8 · n 5 − n 4
    square zero (suc (suc i)) = s − c8 · n 2 − n 5
    square (suc zero) zero = n 4 · T0 ⊹ n 2 · (R0 − a0 · n 0) − c8 · n 3 − n 6
    square (suc zero) (suc zero) = n 2 · (R1 − a0 · n 1) − n 7
    square (suc zero) (suc (suc i)) = T0 ⊹ n 4 ⊹ n 2 · l − c8 · n 5 − n 8
    square (suc (suc j)) zero = k · n 0 ⊹ l · n 3 − s · R0 − n 4 · S0
    square (suc (suc j)) (suc zero) = a0 · n 0 ⊹ k · n 1 ⊹ l · n 4 − R0 − s · R1
    square (suc (suc j)) (suc (suc i)) = k · n 2 ⊹ l · n 5 − s · R2 − S0

abbrev pub pivot_sum : (k : CommRing) (n m : ℕ → k.Car) → k.Car
pivot_sum k n m = determinant (ops k) (difference (ops k) n m 0) (difference (ops k) n m 1) (difference (ops k) n m 2)

abbrev pub pivot_double : {k : CommRing} (C : Curve k) (n : ℕ → k.Car) → k.Car
pivot_double {k} C n =
    let columns : ℕ → ℕ → k.Car = square (ops k) C.a0 C.c3 C.c4 C.c5 C.c6 C.c7 C.c8 n in
    determinant (ops k) (columns 0) (columns 1) (columns 2)
