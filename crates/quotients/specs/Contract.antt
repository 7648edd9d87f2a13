-- What the functions on the quotients of fractions require and ensure.
--   FractionAsked s i p    s has the length of a record of fractions, i is the place of a coefficient, p is not 0
--   ResiduesAsked s p      s has that length, and p is not 0
--   Residues s p d         d holds the nine denominators modulo p
--   ProductsAsked p d      p is above 1, and the numbers of d are below it
--   product_before p d i   the product of the numbers of d before place i, in Z p
--   Products p d r         r holds these products; the last is that of all nine
--   QuotientsAsked s p d r d holds the denominators and r the products, the last of them not 0; p is a prime
--   Quotients s p cs       cs are the nine quotients modulo p
use Rattle.std.specs.Prelude.{◌≡◌, List, ℕ, zero, suc, ◌<◌, ◌≤◌, length, get_or}
use Rattle.prime.specs.Prime.{Prime}
use Rattle.field.specs.Residue.{Z, el}
use Rattle.field.specs.Contract.{Is}
use Rattle.record.specs.Fractions.{fractions_size, numerator, denominator, Quotient}

pub record FractionAsked (s : List ℕ) (i p : ℕ) : Type 0 where
  pub long : length s ≡ fractions_size
  pub place : i < 9
  pub positive : 0 < p

pub record ResiduesAsked (s : List ℕ) (p : ℕ) : Type 0 where
  pub long : length s ≡ fractions_size
  pub positive : 0 < p

pub record Residues (s : List ℕ) (p : ℕ) (d : List ℕ) : Type 0 where
  pub nine : length d ≡ 9
  pub each : (i : ℕ) → i < 9 → Is p (get_or d i 0) (el p (denominator s i))

pub record ProductsAsked (p : ℕ) (d : List ℕ) : Type 0 where
  pub large : 1 < p
  pub below : (i : ℕ) → i < 9 → get_or d i 0 < p

unfoldable pub product_before : (p : ℕ) (d : List ℕ) → ℕ → (Z p).Car
product_before p d zero = (Z p).one
product_before p d (suc i) = (Z p).mul (product_before p d i) (el p (get_or d i 0))

pub record Products (p : ℕ) (d r : List ℕ) : Type 0 where
  pub ten : length r ≡ 10
  pub each : (i : ℕ) → i ≤ 9 → Is p (get_or r i 0) (product_before p d i)

pub record QuotientsAsked (s : List ℕ) (p : ℕ) (d r : List ℕ) : Type 0 where
  pub long : length s ≡ fractions_size
  pub prime : Prime p
  pub residues : Residues s p d
  pub products : Products p d r
  pub unit : ¬ (get_or r 9 0 ≡ 0)

pub record Quotients (s : List ℕ) (p : ℕ) (cs : List ℕ) : Type 0 where
  pub nine : length cs ≡ 9
  pub each : (i : ℕ) → i < 9 → Quotient p (numerator s i) (denominator s i) (get_or cs i 0)
