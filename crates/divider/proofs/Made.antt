-- What is made for p divides by p, with s = 31 − the leading zeros of p − 1 and n = 2^32·2^s.
--   high-below    ⌊n/p⌋ < 2^32 − 1
--   made          the reciprocal, the factor, s and an opposite of p divide by p
use mathlib.Core.Path.{◌≡◌, refl, ◌∙◌}
use Prim.Native.Nat.{ℕ, ◌+◌, ◌*◌, ◌-◌, ◌/◌, ◌%◌, ◌^◌, ◌<◌}
use native.Mathlib.Omega.{arith}
use lib.Count.{count_leading_zeros}
use Rattle.inversion.specs.Contract.{Odd, Opposite}
use Rattle.barrett.specs.Divides.{Divides}
use Rattle.divider.specs.Contract.{DividerAsked}
use Rattle.divider.proofs.Exact.{exact}
use Rattle.divider.proofs.Factor.{first_below, factor}
use Rattle.divider.proofs.Width.{above, most, shifted}

module _ (p n : ℕ) (asked : DividerAsked p) (is : n ≡ 4294967296 * 2 ^ (31 - count_leading_zeros 32 (p - 1)) % 18446744073709551616) where
  whole : n ≡ 4294967296 * 2 ^ (31 - count_leading_zeros 32 (p - 1))
  whole = is ∙ shifted p asked.least asked.below

  pub high-below : n / p < 4294967295
  high-below = first_below _ p n whole (above p asked.least asked.below) asked.below

  pub made : (v : ℕ) → (Odd p → Opposite p v)
      → Divides p (18446744073709551615 / p) (n / p * 4294967296 + n % p * 4294967296 / p + 1) (31 - count_leading_zeros 32 (p - 1)) v
  made v h = record {
    positive = omega arith;
    reciprocal_is = refl;
    shift_below = omega arith;
    quotient = exact _ p _ _ (factor _ p n whole (omega arith)) (omega arith) (above p asked.least asked.below) (most p asked.least asked.below);
    opposite_is = h;
  }
