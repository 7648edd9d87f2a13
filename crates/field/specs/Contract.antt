-- What the functions require of their numbers and ensure of their results.
--   Below₁ Below₂ Below₃      one, two, three numbers are below p
--   Invertible p a            p is a prime and a is below p
--   Is p r x                  r is the number below p whose residue is x
use Rattle.std.specs.Prelude.{◌≡◌, ℕ, ◌<◌}
use Rattle.prime.specs.Prime.{Prime}
use Rattle.field.specs.Residue.{Z, el}

pub record Below₁ (p a : ℕ) : Type 0 where
  pub below : a < p

pub record Below₂ (p a b : ℕ) : Type 0 where
  pub below_1 : a < p
  pub below_2 : b < p

pub record Below₃ (p a b c : ℕ) : Type 0 where
  pub below_1 : a < p
  pub below_2 : b < p
  pub below_3 : c < p

pub record Invertible (p a : ℕ) : Type 0 where
  pub prime : Prime p
  pub below : a < p

pub record Is (p r : ℕ) (x : (Z p).Car) : Type 0 where
  pub below : r < p
  pub is : el p r ≡ x
