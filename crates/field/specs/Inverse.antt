-- The inverse in the ring Z p by division with rest, total: the inverse of zero is zero.
--   quotient p k n     the inverse of the residue of n, if n is at most the fuel k: with p = q·n + r it is −q times the inverse of r
--   inverse p x        the inverse of x
use Rattle.std.specs.Prelude.{ℕ, zero, suc, ◌/◌, ◌%◌}
use Rattle.field.specs.Residue.{Z, el, num}

module _ (p : ℕ) where
  unfoldable pub quotient : ℕ → ℕ → (Z p).Car
  quotient zero n = (Z p).zero
  quotient (suc k) zero = (Z p).zero
  quotient (suc k) (suc zero) = (Z p).one
  quotient (suc k) (suc (suc n)) = (Z p).mul ((Z p).neg (el p (p / suc (suc n)))) (quotient k (p % suc (suc n)))

  unfoldable pub inverse : (Z p).Car → (Z p).Car
  inverse x = quotient p (num p x)
