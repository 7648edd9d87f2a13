-- What the functions require of their numbers and ensure of their results.
--   high_half x k             the high half of x·k: ⌊x·k/2^64⌋
--   dot₂ dot₃                 a·b + c·d, a·b + c·d + e·f, in a ring
--   cross₂                    a·b − c·d
--   more₁                     x + a·b
--   less₁ less₂ less₃         x − a·b, x − (a·b + c·d), x − (a·b + c·d + e·f)
--   Small₂ Small₃ Below₄ Below₅ Below₆ Below₇      two, three, four, five, six, seven numbers are below p, and p is below 2^31
--   Terms p x a b             x is below p·2^32, a and b are below p
--   Sum p r x                 r is a number below p·2^32 whose residue is x
use Rattle.std.specs.Prelude.{◌≡◌, ℕ, ◌+◌, ◌*◌, ◌/◌, ◌<◌, ◌≤◌}
use Rattle.algebra.specs.Ring.{CommRing}
use Rattle.field.specs.Residue.{Z, el}

unfoldable pub high_half : ℕ → ℕ → ℕ
high_half x k = x * k / 18446744073709551616

module _ (R : CommRing) where
  abbrev pub dot₂ : R.Car → R.Car → R.Car → R.Car → R.Car
  dot₂ a b c d = R.add (R.mul a b) (R.mul c d)

  abbrev pub dot₃ : R.Car → R.Car → R.Car → R.Car → R.Car → R.Car → R.Car
  dot₃ a b c d e f = R.add (R.add (R.mul a b) (R.mul c d)) (R.mul e f)

  abbrev pub cross₂ : R.Car → R.Car → R.Car → R.Car → R.Car
  cross₂ a b c d = R.add (R.mul a b) (R.neg (R.mul c d))

  abbrev pub more₁ : R.Car → R.Car → R.Car → R.Car
  more₁ x a b = R.add x (R.mul a b)

  abbrev pub less₁ : R.Car → R.Car → R.Car → R.Car
  less₁ x a b = R.add x (R.neg (R.mul a b))

  abbrev pub less₂ : R.Car → R.Car → R.Car → R.Car → R.Car → R.Car
  less₂ x a b c d = R.add x (R.neg (dot₂ a b c d))

  abbrev pub less₃ : R.Car → R.Car → R.Car → R.Car → R.Car → R.Car → R.Car → R.Car
  less₃ x a b c d e f = R.add x (R.neg (dot₃ a b c d e f))

abbrev pub term : ℕ
term = 4611686014132420609

pub record Small₂ (p a b : ℕ) : Type 0 where
  pub small : p < 2147483648
  pub below_1 : a < p
  pub below_2 : b < p

pub record Small₃ (p a b c : ℕ) : Type 0 where
  pub small : p < 2147483648
  pub below_1 : a < p
  pub below_2 : b < p
  pub below_3 : c < p

pub record Below₄ (p a b c d : ℕ) : Type 0 where
  pub small : p < 2147483648
  pub below_1 : a < p
  pub below_2 : b < p
  pub below_3 : c < p
  pub below_4 : d < p

pub record Below₅ (p a b c d e : ℕ) : Type 0 where
  pub small : p < 2147483648
  pub below_1 : a < p
  pub below_2 : b < p
  pub below_3 : c < p
  pub below_4 : d < p
  pub below_5 : e < p

pub record Below₆ (p a b c d e f : ℕ) : Type 0 where
  pub small : p < 2147483648
  pub below_1 : a < p
  pub below_2 : b < p
  pub below_3 : c < p
  pub below_4 : d < p
  pub below_5 : e < p
  pub below_6 : f < p

pub record Below₇ (p a b c d e f g : ℕ) : Type 0 where
  pub small : p < 2147483648
  pub below_1 : a < p
  pub below_2 : b < p
  pub below_3 : c < p
  pub below_4 : d < p
  pub below_5 : e < p
  pub below_6 : f < p
  pub below_7 : g < p

pub record Terms (p x a b : ℕ) : Type 0 where
  pub small : p < 2147483648
  pub room : x + term < 18446744073709551616
  pub below_1 : a < p
  pub below_2 : b < p

pub record Sum (p x r : ℕ) (y : (Z p).Car) : Type 0 where
  pub more : r ≤ x + term
  pub is : el p r ≡ y
