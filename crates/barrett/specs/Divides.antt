-- How numbers are divided by p without a division.
--   Divides p reciprocal factor shift opposite     the numbers are made for p: the reciprocal is ⌊(2^64 − 1)/p⌋, the factor and the shift give the
--                                                  quotient of each number below 2^63, the opposite is −1/p modulo 2^32
use Rattle.std.specs.Prelude.{◌≡◌, ℕ, ◌*◌, ◌/◌, ◌^◌, ◌<◌}
use Rattle.inversion.specs.Contract.{OppositeOf}

pub record Divides (p reciprocal factor shift opposite : ℕ) : Type 0 where
  pub positive : 0 < p
  pub reciprocal_is : reciprocal ≡ 18446744073709551615 / p
  pub shift_below : shift < 32
  pub quotient : (x : ℕ) → x < 9223372036854775808 → x * factor / 18446744073709551616 / 2 ^ shift ≡ x / p
  pub opposite_is : OppositeOf p opposite
