-- The factor by two divisions of n = 2^32·t by p: h is the first quotient, and l that of the first rest times 2^32.
--   rest-fits             the rest times 2^32 is below 2^64
--   first_below           h < 2^32 − 1
--   second_below          l < 2^32
--   sum_fits more-fits    h·2^32 + l < 2^64, and so with at most 1 added
--   factor                (h·2^32 + l + 1)·p = 2^64·t + δ with δ at most p
use mathlib.Core.Path.{◌≡◌}
use Prim.Native.Nat.{ℕ, ◌+◌, ◌*◌, ◌-◌, ◌/◌, ◌%◌, ◌≤◌, ◌<◌}
use native.Mathlib.Nat.{div-add-mod', div-lt_iff_lt-mul, mod-lt}
use native.Mathlib.Omega.{arith}

pub rest-fits : (p n : ℕ) → 0 < p → p < 4294967296 → n % p * 4294967296 < 18446744073709551616
rest-fits p n pos small = omega (arith, mod-lt n {m = p} pos)

second_below : (p n : ℕ) → 0 < p → n % p * 4294967296 / p < 4294967296
second_below p n pos = (div-lt_iff_lt-mul pos).1 (omega (arith, mod-lt n {m = p} pos))

pub sum_fits : (p n h : ℕ) → 0 < p → h < 4294967295 → h * 4294967296 + n % p * 4294967296 / p < 18446744073709551616
sum_fits p n h pos below = omega (arith, second_below p n pos)

pub more-fits : (p n h k : ℕ) → 0 < p → h < 4294967295 → k ≤ 1 → h * 4294967296 + n % p * 4294967296 / p + k < 18446744073709551616
more-fits p n h k pos below most = omega (arith, second_below p n pos)

module _ (t p n : ℕ) (is : n ≡ 4294967296 * t) where
  pub first_below : t < p → p < 4294967296 → n / p < 4294967295
  first_below above small = (div-lt_iff_lt-mul {k = p} (omega arith)).1 (omega (arith, is))

  pub factor : 0 < p → (n / p * 4294967296 + n % p * 4294967296 / p + 1) * p ≡ 18446744073709551616 * t + (p - n % p * 4294967296 % p)
  factor pos =
      omega (
        arith,
        is,
        div-add-mod' n p,
        div-add-mod' (n % p * 4294967296) p,
        mod-lt (n % p * 4294967296) {m = p} pos,
      )
