-- Sums of products with signs in a ring, and what the function that forms them requires.
--   more₂                  x + a·b + c·d
--   more₁_less₁            x + a·b − c·d
--   more₂_less₁            x + a·b + c·d − e·f
--   more₁_less₂            x + a·b − c·d − e·f
--   more₃_less₁            x + a·b + c·d + e·f − g·h
--   more₂_less₂            x + a·b + c·d − e·f − g·h
--   more_all less_all      y and the products of some pairs, y less these products
--   AllBelow p pairs       the numbers of the pairs are below p
--   SumAsked p x plus minus        x and the pairs are below p, these are four at most, and p is below 2^31
use Rattle.std.specs.Prelude.{ℕ, ◌+◌, ◌<◌, ◌≤◌, List, [], ◌∷◌, length, ⊤}
use Rattle.field.specs.Residue.{Z, el}
use Rattle.algebra.specs.Ring.{CommRing}
use Rattle.barrett.specs.Contract.{more₁, less₁}

module _ (R : CommRing) where
  abbrev pub more₂ : R.Car → R.Car → R.Car → R.Car → R.Car → R.Car
  more₂ x a b c d = more₁ R (more₁ R x a b) c d

  abbrev pub more₁_less₁ : R.Car → R.Car → R.Car → R.Car → R.Car → R.Car
  more₁_less₁ x a b c d = less₁ R (more₁ R x a b) c d

  abbrev pub more₂_less₁ : R.Car → R.Car → R.Car → R.Car → R.Car → R.Car → R.Car → R.Car
  more₂_less₁ x a b c d e f = less₁ R (more₁ R (more₁ R x a b) c d) e f

  abbrev pub more₁_less₂ : R.Car → R.Car → R.Car → R.Car → R.Car → R.Car → R.Car → R.Car
  more₁_less₂ x a b c d e f = less₁ R (less₁ R (more₁ R x a b) c d) e f

  abbrev pub more₃_less₁ : R.Car → R.Car → R.Car → R.Car → R.Car → R.Car → R.Car → R.Car → R.Car → R.Car
  more₃_less₁ x a b c d e f g h = less₁ R (more₁ R (more₁ R (more₁ R x a b) c d) e f) g h

  abbrev pub more₂_less₂ : R.Car → R.Car → R.Car → R.Car → R.Car → R.Car → R.Car → R.Car → R.Car → R.Car
  more₂_less₂ x a b c d e f g h = less₁ R (less₁ R (more₁ R (more₁ R x a b) c d) e f) g h

module _ (p : ℕ) where
  abbrev pub more_all : (Z p).Car → List (ℕ × ℕ) → (Z p).Car
  more_all y [] = y
  more_all y (q ∷ r) = more_all (more₁ (Z p) y (el p q.0) (el p q.1)) r

  abbrev pub less_all : (Z p).Car → List (ℕ × ℕ) → (Z p).Car
  less_all y [] = y
  less_all y (q ∷ r) = less_all (less₁ (Z p) y (el p q.0) (el p q.1)) r

  abbrev pub AllBelow : List (ℕ × ℕ) → Type 0
  AllBelow [] = ⊤
  AllBelow (q ∷ r) = (q.0 < p) × (q.1 < p) × AllBelow r

pub record SumAsked (p x : ℕ) (plus minus : List (ℕ × ℕ)) : Type 0 where
  pub small : p < 2147483648
  pub x_below : x < p
  pub few : length plus + length minus ≤ 4
  pub plus_below : AllBelow p plus
  pub minus_below : AllBelow p minus
