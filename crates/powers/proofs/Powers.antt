-- Powers of an ideal.
--   power-one              the first power is the ideal
--   power-same             powers of sets with the same elements have the same elements
--   power-less             a higher power lies inside a lower one
use Prim.Native.Nat.{ℕ, zero, suc, ◌≤◌}
use native.Mathlib.Omega.{arith}
use Rattle.algebra.specs.Ring.{CommRing}
use Rattle.ideal.specs.Ideal.{IsIdeal, SameIdeal}
use Rattle.ideal.proofs.Same.{same_refl, same_trans}
use Rattle.ideal.proofs.Product.{product-same, product-map, product_comm, product-unit}
use Rattle.powers.specs.Power.{Power, Inside}

module _ (R : CommRing) where
  pub power-one : {I : R.Car → Type 0} → IsIdeal R I → SameIdeal R (Power R I 1) I
  power-one i = same_trans R (product_comm R) (product-unit R i)

  pub power-same : {I J : R.Car → Type 0} → SameIdeal R I J → (k : ℕ) → SameIdeal R (Power R I k) (Power R J k)
  power-same h zero = same_refl R (λ _. Unit)
  power-same h (suc k) = product-same R h (power-same h k)

  pub power-less : (I : R.Car → Type 0) (j k : ℕ) → j ≤ k → Inside R (Power R I k) (Power R I j)
  power-less I zero k l h m = tt
  power-less I (suc j) zero l h m = absurd (omega arith)
  power-less I (suc j) (suc k) l h m = product-map R (λ a i. i) (power-less I j k (omega arith)) m
