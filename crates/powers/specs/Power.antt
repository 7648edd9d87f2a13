-- Powers of an ideal, and ideals inside others.
--   Power I k          the k-th power of I: the product of k copies, the whole ring for none
--   Inside I J         I lies inside J
use Rattle.std.specs.Prelude.{ℕ, zero, suc}
use Rattle.algebra.specs.Ring.{CommRing}
use Rattle.ideal.specs.Ideal.{Product}

module _ (R : CommRing) where
  open R use {Car}

  abbrev pub Power : (Car → Type 0) → ℕ → Car → Type 0
  Power I zero = λ _. Unit
  Power I (suc k) = Product R I (Power I k)

  abbrev pub Inside : (Car → Type 0) → (Car → Type 0) → Type 0
  Inside I J = (h : Car) → I h → J h
