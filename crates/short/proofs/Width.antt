-- The width of a modulus, and how long short records are.
--   below-width        a number below p has width p bits
--   width-most         at most 32 of them, p being at most 2^32
--   filled_covers      c numbers of w bits stand in the bytes that they fill
--   body-most          the numbers of a short record take at most four bytes each
--   short-most         a short record has at most 4 + ⌈9·w/8⌉ bytes
use Prim.Native.Nat.{ℕ, ◌+◌, ◌-◌, ◌*◌, ◌^◌, ◌<◌, ◌≤◌}
use native.Mathlib.Nat.{mul-le-mul_left, mul-le-mul_right, le_trans}
use native.Mathlib.Omega.{arith}
use lib.Pow.{pow_mono}
use Rattle.divisor.specs.Kind.{Kind, count}
use Rattle.divisor.proofs.Codes.{count_small}
use Rattle.packing.specs.Packing.{filled}
use Rattle.packing.proofs.Width.{bit_length-fits, bit_length-least}
use Rattle.short.specs.Short.{width, body_size, short_size}

pub below-width : (p n : ℕ) → n < p → n < 2 ^ width p
below-width p n h = omega (arith, bit_length-fits (p - 1))

pub width-most : (p : ℕ) → p ≤ 4294967296 → width p ≤ 32
width-most p h = bit_length-least (p - 1) 32 (omega arith)

pub filled_covers : (w c : ℕ) → w * c ≤ 8 * filled w c
filled_covers w c = omega arith

pub filled-power : (w c n : ℕ) → n < 2 ^ (w * c) → n < 2 ^ (8 * filled w c)
filled-power w c n h = le_trans h (pow_mono (filled_covers w c))

pub body-most : (p : ℕ) (κ : Kind) → p ≤ 4294967296 → body_size p κ ≤ 4 * count κ
body-most p κ h = omega (arith, mul-le-mul_right {m = width p} {n = 32} (count κ) (width-most p h))

pub short-most : (p : ℕ) (κ : Kind) → short_size p κ ≤ 4 + filled (width p) 9
short-most p κ = omega (arith, mul-le-mul_left {m = count κ} {n = 9} (width p) (count_small κ))
