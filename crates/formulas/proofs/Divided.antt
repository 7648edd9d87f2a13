-- The last three numbers by the products of i with r0 and g1.
--   h0-divided h1-divided h2-divided       i·(f0·g1 − g0·r0), i·(g1·g2 − g0) and g1 + i·(f0 − g2·r0)
use mathlib.Core.Path.{◌≡◌}
use Rattle.algebra.specs.Ring.{CommRing}
use Rattle.algebra.proofs.Solve.{solve, ◌⊞◌, ◌⊠◌, ⊟◌}
use Rattle.barrett.specs.Contract.{more₁, less₁, cross₂}
use Rattle.chains.specs.Contract.{more₁_less₁}

module _ (R : CommRing) where
  pub h0-divided : (i f0 g1 g0 r0 : R.Car) → cross₂ R f0 (R.mul i g1) g0 (R.mul i r0) ≡ R.mul i (cross₂ R f0 g1 g0 r0)
  h0-divided = solve R 5 (λ i f0 g1 g0 r0. f0 ⊠ (i ⊠ g1) ⊞ ⊟ (g0 ⊠ (i ⊠ r0))) (λ i f0 g1 g0 r0. i ⊠ (f0 ⊠ g1 ⊞ ⊟ (g0 ⊠ r0))) tt

  pub h1-divided : (i g1 g2 g0 : R.Car) → cross₂ R (R.mul i g1) g2 i g0 ≡ R.mul i (more₁ R (R.neg g0) g1 g2)
  h1-divided = solve R 4 (λ i g1 g2 g0. i ⊠ g1 ⊠ g2 ⊞ ⊟ (i ⊠ g0)) (λ i g1 g2 g0. i ⊠ (⊟ g0 ⊞ g1 ⊠ g2)) tt

  pub h2-divided : (i g1 f0 g2 r0 : R.Car) → more₁_less₁ R g1 i f0 g2 (R.mul i r0) ≡ more₁ R g1 i (less₁ R f0 g2 r0)
  h2-divided = solve R 5 (λ i g1 f0 g2 r0. g1 ⊞ i ⊠ f0 ⊞ ⊟ (g2 ⊠ (i ⊠ r0))) (λ i g1 f0 g2 r0. g1 ⊞ i ⊠ (f0 ⊞ ⊟ (g2 ⊠ r0))) tt
