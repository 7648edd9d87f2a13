-- The code's formulas for the columns of a double are those of the definition: each an identity of the ring solver, in a0, c3 … c8 and the numbers n0 … n8 of the divisor. The
-- code has the coefficients of y³, which are −a0, −c8 and so on.
--   a-part … l-part        what the columns share, as the code has it
--   twin j i               the entries of the columns, as the code has them
--   twin_equals            they are those of the definition
use mathlib.Core.Path.{◌≡◌}
use mathlib.Core.List.{List, [], ◌∷◌}
use Prim.Native.Nat.{ℕ, zero, suc, ◌+◌, ◌≤◌}
use Rattle.algebra.specs.Ring.{CommRing, Ops, ops}
use Rattle.algebra.proofs.Norm.{E, E-ops, var, Same}
use Rattle.algebra.proofs.Sound.{value, same-value}
use Rattle.divisor.proofs.Table.{class_by}
use Rattle.columns.specs.Pivots.{square}

module _ {A : Type 0} (O : Ops A) (a0 c3 c4 c5 c6 c7 c8 : A) (n : ℕ → A) where
  abbrev ◌⊹◌ : A → A → A
  a ⊹ b = O.add a b

  abbrev ◌−◌ : A → A → A
  a − b = O.add a (O.neg b)

  abbrev ◌·◌ : A → A → A
  a · b = O.mul a b

  infixl 60 ◌⊹◌ ◌−◌
  infixl 70 ◌·◌
  -- −a0·n i
  abbrev pub a-part : ℕ → A
  a-part i = O.neg a0 · n i

  abbrev pub r1-part : A
  r1-part = a-part 1 − O.neg c6

  abbrev pub r2-part : A
  r2-part = a-part 2 − O.neg c7

  abbrev pub s-part : A
  s-part = n 1 − n 5

  abbrev pub t-part : A
  t-part = O.neg c5 ⊹ n 8 ⊹ n 2 · r2-part

  abbrev pub s0-part : A
  s0-part = O.neg c4 ⊹ n 7 ⊹ n 2 · r1-part ⊹ n 1 · r2-part − O.neg c8 · n 8

  abbrev pub r0-part : A
  r0-part = a-part 0 − O.neg c3 ⊹ O.neg c8 · n 7 − n 1 · r1-part

  abbrev pub k-part : A
  k-part = r1-part ⊹ O.neg a0 · n 5

  abbrev pub l-part : A
  l-part = r2-part ⊹ a-part 2

  abbrev pub twin : ℕ → ℕ → A
  twin zero zero = O.neg (n 3) ⊹ n 2 · s0-part ⊹ O.neg c8 · n 0 − s-part · t-part
  twin zero (suc zero) = O.neg (t-part ⊹ n 4) ⊹ O.neg c8 · n 5
  twin zero (suc (suc i)) = s-part − n 5 ⊹ O.neg c8 · n 2
  twin (suc zero) zero = O.neg (n 6) ⊹ n 2 · (r0-part ⊹ a-part 0) ⊹ O.neg c8 · n 3 − n 4 · t-part
  twin (suc zero) (suc zero) = O.neg (n 7) ⊹ n 2 · (r1-part ⊹ a-part 1)
  twin (suc zero) (suc (suc i)) = n 4 − (t-part ⊹ n 8) ⊹ n 2 · l-part ⊹ O.neg c8 · n 5
  twin (suc (suc j)) zero = O.zero ⊹ k-part · n 0 ⊹ l-part · n 3 ⊹ n 4 · s0-part − s-part · r0-part
  twin (suc (suc j)) (suc zero) = O.neg (a-part 0 ⊹ r0-part) ⊹ k-part · n 1 ⊹ l-part · n 4 − s-part · r1-part
  twin (suc (suc j)) (suc (suc i)) = s0-part ⊹ k-part · n 2 ⊹ l-part · n 5 − s-part · r2-part

-- the letters of a curve and a divisor
abbrev at_letters : (E → E → E → E → E → E → E → (ℕ → E) → ℕ → ℕ → E) → ℕ → ℕ → E
at_letters f = f (var 0) (var 1) (var 2) (var 3) (var 4) (var 5) (var 6) (λ i. var (7 + i))

module _ (R : CommRing) (a0 c3 c4 c5 c6 c7 c8 : R.Car) (n : ℕ → R.Car) where
  abbrev values : List R.Car
  values = a0 ∷ c3 ∷ c4 ∷ c5 ∷ c6 ∷ c7 ∷ c8 ∷ n 0 ∷ n 1 ∷ n 2 ∷ n 3 ∷ n 4 ∷ n 5 ∷ n 6 ∷ n 7 ∷ n 8 ∷ []

  Equal : ℕ → ℕ → Type 0
  Equal j i = twin (ops R) a0 c3 c4 c5 c6 c7 c8 n j i ≡ square (ops R) a0 c3 c4 c5 c6 c7 c8 n j i

  pub twin_equals : (j : ℕ) → j ≤ 2 → (i : ℕ) → i ≤ 2 → twin (ops R) a0 c3 c4 c5 c6 c7 c8 n j i ≡ square (ops R) a0 c3 c4 c5 c6 c7 c8 n j i
  unfolding Equal
  twin_equals =
      class_by (λ j. (i : ℕ) → i ≤ 2 → Equal j i)
      (class_by (Equal 0) (same 0 0 tt) (same 0 1 tt) (same 0 2 tt))
      (class_by (Equal 1) (same 1 0 tt) (same 1 1 tt) (same 1 2 tt))
      (class_by (Equal 2) (same 2 0 tt) (same 2 1 tt) (same 2 2 tt))
    where
      same : (j i : ℕ) → Same (at_letters (twin E-ops) j i) (at_letters (square E-ops) j i) → value R (at_letters (twin E-ops) j i) values ≡ value R (at_letters (square E-ops) j i) values
      same j i t = same-value R (at_letters (twin E-ops) j i) (at_letters (square E-ops) j i) t values
