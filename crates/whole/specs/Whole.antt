-- What is ensured of the sign and the size of a whole number.
--   SignOf n r             size_of: r is the whole number n by its sign and size
use Rattle.std.specs.Prelude.{◌≡◌, ℕ, suc, ℤ, pos, negsuc}
use Rattle.whole.specs.declared.Whole.{Whole}
use Rattle.whole.specs.declared.Whole.TheVariants as whole

abbrev pub SignOf : ℤ → Whole → Type 0
SignOf n (whole.Up m) = n ≡ pos m
SignOf n (whole.Down m) = (k : ℕ) × (n ≡ negsuc k) × (m ≡ suc k)
