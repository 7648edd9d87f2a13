-- Linear functionals on the coordinate ring, given by their values lam n at the normal monomials of pole numbers n below N.
--   apply N lam g            the value at g: the sum of lam n times the coefficient of g at n, for n below N
--   candidate n a4 a3 a0     mono n + a4·y + a3·x + a0
--   Functional N f d lam     lam is the functional of f, d its pole number: 0 below d + 5, 1 at d + 5, and 0 at the multiples of f
use Rattle.std.specs.Prelude.{◌≡◌, ℕ, ◌+◌, ◌<◌, ◌≤◌}
use Rattle.algebra.specs.Ring.{CommRing}
use Rattle.ideal.specs.Poles.{largest_gap}
use Rattle.curve.specs.Curve.{Curve, Coordinate, x, y, constant}
use Rattle.curve.specs.Sequence.{coefficient}
use Rattle.curve.specs.Monomial.{mono}
use Rattle.vector.specs.Contract.{total}

module _ {k : CommRing} (C : Curve k) where
  open Coordinate C use {Car as El, add as ◌⊕◌, mul as ◌⊗◌}

  infixl 60 ◌⊕◌
  infixl 70 ◌⊗◌
  unfoldable pub apply : ℕ → (ℕ → k.Car) → El → k.Car
  apply N lam g = total k (λ n. k.mul (lam n) (coefficient C n g)) N

  -- the multiples of f by mono 6, …, mono 13 reach up to the pole number d + 13
  pub record Functional (N : ℕ) (f : El) (d : ℕ) (lam : ℕ → k.Car) : Type 0 where
    pub low : (n : ℕ) → n < d + largest_gap → lam n ≡ k.zero
    pub one : lam (d + largest_gap) ≡ k.one
    pub kills : (s : ℕ) → 6 ≤ s → s < 14 → apply N lam (mono C s ⊗ f) ≡ k.zero

  unfoldable pub candidate : ℕ → k.Car → k.Car → k.Car → El
  candidate n a4 a3 a0 = mono C n ⊕ constant C a4 ⊗ y C ⊕ constant C a3 ⊗ x C ⊕ constant C a0
