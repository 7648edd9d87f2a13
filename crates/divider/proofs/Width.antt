-- The width of p − 1: with z for its leading zeros and s = 31 − z, 2^s < p ≤ 2·2^s.
--   zeros         z is at most 31
--   above         2^s < p
--   most          p ≤ 2·2^s
--   shifted       2^32·2^s modulo 2^64 is 2^32·2^s
use mathlib.Core.Path.{◌≡◌, ap}
use Prim.Native.Nat.{ℕ, suc, ◌+◌, ◌*◌, ◌-◌, ◌%◌, ◌^◌, ◌≤◌, ◌<◌}
use native.Mathlib.Nat.{pow-suc}
use native.Mathlib.Omega.{arith}
use lib.Count.{count_leading_zeros, leading_top}
use lib.Pow.{shl_exact}

module _ (p : ℕ) (least : 2 ≤ p) (below : p < 4294967296) where
  top : (j : ℕ) × (count_leading_zeros 32 (p - 1) + suc j ≡ 32) × (2 ^ j ≤ p - 1) × (p - 1 < 2 ^ suc j)
  top = leading_top 32 (p - 1) (omega arith) (omega arith)

  pub zeros : count_leading_zeros 32 (p - 1) ≤ 31
  zeros = omega (arith, top.1)

  same : 31 - count_leading_zeros 32 (p - 1) ≡ top.0
  same = omega (arith, top.1)

  pub above : 2 ^ (31 - count_leading_zeros 32 (p - 1)) < p
  above = omega (arith, ap (λ (j : ℕ). 2 ^ j) same, top.2)

  pub most : p ≤ 2 * 2 ^ (31 - count_leading_zeros 32 (p - 1))
  most = omega (arith, ap (λ (j : ℕ). 2 ^ j) same, top.3, pow-suc 2 top.0)

  pub shifted : 4294967296 * 2 ^ (31 - count_leading_zeros 32 (p - 1)) % 18446744073709551616 ≡ 4294967296 * 2 ^ (31 - count_leading_zeros 32 (p - 1))
  shifted = shl_exact {a = 4294967296} 33 (31 - count_leading_zeros 32 (p - 1)) 64 (omega arith) (omega arith)
