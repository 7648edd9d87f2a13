-- The bit length of n is the least w with n below 2^w.
--   bit_length-fits     n < 2^w
--   bit_length-least    w is at most v wherever n < 2^v
--   bit_length_leading  32 less the leading zeros of a number of 32 bits
use mathlib.Core.Path.{◌≡◌, refl}
use mathlib.Core.Logic.{◌⊎◌, inl, inr}
use Prim.Native.Nat.{ℕ, zero, suc, ◌+◌, ◌-◌, ◌*◌, ◌/◌, ◌^◌, ◌<◌, ◌≤◌}
use native.Mathlib.Nat.{pow-suc, le_antisymm, le_refl, eq-zero-or-pos, lt_of_not-le}
use native.Mathlib.Omega.{arith}
use lib.Arith.{half_le}
use lib.Pow.{pow_mono}
use lib.Count.{count_leading_zeros, leading_length}
use Rattle.packing.specs.Packing.{digits, bit_length}

digits-zero : (d : ℕ) → digits d 0 ≡ 0
unfolding digits
digits-zero zero = refl
digits-zero (suc d) = refl

fits_step : (n k : ℕ) → n / 2 < 2 ^ k → n < 2 ^ suc k
fits_step n k h = omega (arith, pow-suc 2 k)

digits-fits : (d n : ℕ) → n ≤ d → n < 2 ^ digits d n
unfolding digits
digits-fits zero n h = omega arith
digits-fits (suc d) zero h = omega arith
digits-fits (suc d) (suc n) h = fits_step (suc n) (digits d (suc n / 2)) (digits-fits d (suc n / 2) (half_le h))

twice_step : (n k : ℕ) → 2 ^ k ≤ 2 * (n / 2) → 2 ^ suc k ≤ 2 * n
twice_step n k h = omega (arith, pow-suc 2 k)

digits-twice : (d n : ℕ) → 0 < n → n ≤ d → 2 ^ digits d n ≤ 2 * n
unfolding digits
digits-twice zero n pos h = absurd (omega arith)
digits-twice (suc d) zero pos h = absurd (omega arith)
digits-twice (suc d) (suc n) pos h = go (λ q. digits-twice d (suc n / 2) q (half_le h)) (eq-zero-or-pos (suc n / 2))
  where
    go : (0 < suc n / 2 → 2 ^ digits d (suc n / 2) ≤ 2 * (suc n / 2)) → (suc n / 2 ≡ 0) ⊎ (0 < suc n / 2) → 2 ^ suc (digits d (suc n / 2)) ≤ 2 * suc n
    go rest (inl e) = rw (e, digits-zero d) (omega arith)
    go rest (inr q) = twice_step (suc n) (digits d (suc n / 2)) (rest q)

pub bit_length-fits : (n : ℕ) → n < 2 ^ bit_length n
unfolding bit_length
bit_length-fits n = digits-fits n n (le_refl n)

-- a power of at most 2·n + 1 has an exponent of at most v where n < 2^v
exponent : (n m v : ℕ) → 2 ^ m ≤ 2 * n + 1 → n < 2 ^ v → m ≤ v
exponent n m v h l =
    let less : m < suc v = lt_of_not-le (λ (g : suc v ≤ m). omega (arith, pow_mono g, pow-suc 2 v)) in
    omega arith

pub bit_length-least : (n v : ℕ) → n < 2 ^ v → bit_length n ≤ v
unfolding bit_length digits
bit_length-least zero v h = omega arith
bit_length-least (suc n) v h = exponent (suc n) (digits (suc n) (suc n)) v (omega (arith, digits-twice (suc n) (suc n) (omega arith) (le_refl (suc n)))) h

pub bit_length_leading : (n : ℕ) → n < 4294967296 → 32 - count_leading_zeros 32 n ≡ bit_length n
bit_length_leading n h =
    let t = leading_length 32 n h in
    let same : t.0 ≡ bit_length n = le_antisymm (exponent n t.0 (bit_length n) t.3 (bit_length-fits n)) (bit_length-least n t.0 t.2) in
    omega (arith, t.1)
