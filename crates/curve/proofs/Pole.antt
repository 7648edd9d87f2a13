-- The pole numbers of normal monomials are all natural numbers but 1, 2 and 5.
--   pole-x, pole-y     x_power and y_power are the exponents
--   Located n, locate  n is the pole number of a normal monomial or a gap
--   gap_dec            it is decidable which
--   pole-is_pole       the pole numbers of normal monomials are no gaps
use mathlib.Core.Path.{◌≡◌, refl, subst}
use mathlib.Core.Logic.{inl, inr}
use Prim.Native.Nat.{ℕ, zero, suc, ◌-◌, ◌/◌, ◌%◌, ◌≤◌}
use native.Mathlib.Omega.{arith}
use native.Mathlib.Decide.{dec_le, ℕ_discrete}
use Rattle.ideal.specs.Poles.{IsGap, IsPole}
use Rattle.curve.specs.Pole.{pole, x_power, y_power}

pub pole-y : (i j : ℕ) → j ≤ 2 → y_power (pole i j) ≡ j
pole-y i zero h = omega arith
pole-y i (suc zero) h = omega arith
pole-y i (suc (suc zero)) h = omega arith
pole-y i (suc (suc (suc j))) h = absurd (omega arith)

pub pole-x : (i j : ℕ) → j ≤ 2 → x_power (pole i j) ≡ i
pole-x i j h = omega (arith, pole-y i j h)

pub data Located (n : ℕ) : Type 0 where
  place : (i j : ℕ) → j ≤ 2 → n ≡ pole i j → Located n
  gap : IsGap n → Located n

pub locate : (n : ℕ) → Located n
locate n = go (n % 3) refl
  where
    go_1 : n % 3 ≡ 1 → Dec (4 ≤ n) → Located n
    go_1 e (yes h) = place ((n - 4) / 3) 1 (omega arith) (omega arith)
    go_1 e (no h) = gap (inl (omega arith))

    go_2 : n % 3 ≡ 2 → Dec (8 ≤ n) → Dec (n ≡ 2) → Located n
    go_2 e (yes h) d = place ((n - 8) / 3) 2 (omega arith) (omega arith)
    go_2 e (no h) (yes d) = gap (inr (inl d))
    go_2 e (no h) (no d) = gap (inr (inr (omega arith)))

    go : (r : ℕ) → n % 3 ≡ r → Located n
    go zero e = place (n / 3) 0 (omega arith) (omega arith)
    go (suc zero) e = go_1 e (dec_le 4 n)
    go (suc (suc zero)) e = go_2 e (dec_le 8 n) (ℕ_discrete n 2)
    go (suc (suc (suc r))) e = absurd (omega arith)

pub pole-is_pole : (i j : ℕ) → j ≤ 2 → IsPole (pole i j)
pole-is_pole i zero h (inl e) = omega arith
pole-is_pole i zero h (inr (inl e)) = omega arith
pole-is_pole i zero h (inr (inr e)) = omega arith
pole-is_pole i (suc zero) h (inl e) = omega arith
pole-is_pole i (suc zero) h (inr (inl e)) = omega arith
pole-is_pole i (suc zero) h (inr (inr e)) = omega arith
pole-is_pole i (suc (suc zero)) h (inl e) = omega arith
pole-is_pole i (suc (suc zero)) h (inr (inl e)) = omega arith
pole-is_pole i (suc (suc zero)) h (inr (inr e)) = omega arith
pole-is_pole i (suc (suc (suc j))) h g = absurd (omega arith)

pub gap_dec : (n : ℕ) → Dec (IsGap n)
gap_dec n = go (locate n)
  where
    go : Located n → Dec (IsGap n)
    go (place i j h e) = no (λ d. pole-is_pole i j h (subst IsGap e d))
    go (gap d) = yes d
