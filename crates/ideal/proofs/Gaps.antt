-- Arithmetic of pole numbers: the gaps are 1, 2 and 5, and n is a pole number exactly if 5 − n is not.
--   pole-apart         a pole number is none of 1, 2 and 5
--   pole_intro         a number that is none of 1, 2 and 5 is a pole number
--   pole-large         every number from 6 on is a pole number
--   pole-zero          0 is a pole number
--   gap_dec            it is decidable whether a number is a gap
--   Split d m          m − d is a pole number, or d + 5 − m is one
--   split              one of the two always holds
use mathlib.Core.Path.{◌≡◌}
use mathlib.Core.Logic.{inl, inr, ⊎_elim}
use Prim.Native.Nat.{ℕ, ◌+◌, ◌-◌, ◌≤◌}
use native.Mathlib.Decide.{ℕ_discrete, dec_le}
use native.Mathlib.Omega.{arith}
use Rattle.ideal.specs.Poles.{largest_gap, IsGap, IsPole}

pub pole-apart : {n : ℕ} → IsPole n → (¬ (n ≡ 1)) × (¬ (n ≡ 2)) × (¬ (n ≡ largest_gap))
pole-apart h = (λ e. h (inl e), λ e. h (inr (inl e)), λ e. h (inr (inr e)))

pub pole_intro : {n : ℕ} → ¬ (n ≡ 1) → ¬ (n ≡ 2) → ¬ (n ≡ largest_gap) → IsPole n
pole_intro a b c = ⊎_elim a (⊎_elim b c)

pub pole-large : {n : ℕ} → 6 ≤ n → IsPole n
pole-large h = pole_intro (omega arith) (omega arith) (omega arith)

pub pole-zero : IsPole 0
pole-zero = pole_intro (omega arith) (omega arith) (omega arith)

pub gap_dec : (n : ℕ) → Dec (IsGap n)
gap_dec n = go (ℕ_discrete n 1) (ℕ_discrete n 2) (ℕ_discrete n largest_gap)
  where
    go : Dec (n ≡ 1) → Dec (n ≡ 2) → Dec (n ≡ largest_gap) → Dec (IsGap n)
    go (yes e) b c = yes (inl e)
    go (no a) (yes e) c = yes (inr (inl e))
    go (no a) (no b) (yes e) = yes (inr (inr e))
    go (no a) (no b) (no c) = no (pole_intro a b c)

pub data Split (d m : ℕ) : Type 0 where
  above : {s : ℕ} → IsPole s → m ≡ d + s → Split d m
  across : {s : ℕ} → IsPole s → s + m ≡ d + largest_gap → Split d m

-- The symmetry of the pole numbers, without subtraction.
pub split : (d m : ℕ) → Split d m
split d m = go (dec_le d m)
  where
    near : d ≤ m → IsGap (m - d) → Split d m
    near l (inl e) = across {s = 4} (pole_intro (omega arith) (omega arith) (omega arith)) (omega arith)
    near l (inr (inl e)) = across {s = 3} (pole_intro (omega arith) (omega arith) (omega arith)) (omega arith)
    near l (inr (inr e)) = across {s = 0} pole-zero (omega arith)

    at : d ≤ m → Dec (IsGap (m - d)) → Split d m
    at l (yes g) = near l g
    at l (no g) = above {s = m - d} g (omega arith)

    go : Dec (d ≤ m) → Split d m
    go (yes l) = at l (gap_dec (m - d))
    go (no l) = across {s = d + largest_gap - m} (pole-large (omega arith)) (omega arith)
