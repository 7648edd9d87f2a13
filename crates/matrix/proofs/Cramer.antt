-- Cramer's rule: z·d = (d·(b × c))·a + (d·(c × a))·b + (d·(a × b))·c, for the determinant z = a·(b × c) of three columns.
--   cramer                 … of columns with values of the vector and scalar products
use mathlib.Core.Path.{◌≡◌, ◌∙◌}
use Prim.Native.Nat.{ℕ, zero, suc}
use Rattle.algebra.specs.Ring.{CommRing, ops}
use Rattle.algebra.proofs.Norm.{E}
use Rattle.algebra.proofs.Solve.{solve, ◌⊞◌, ◌⊠◌, ⊟◌}
use Rattle.columns.specs.Pivots.{determinant}
use Rattle.barrett.specs.Contract.{dot₃, cross₂}

abbrev dot_e : E → E → E → E → E → E → E
dot_e a b c d e f = a ⊠ b ⊞ c ⊠ d ⊞ e ⊠ f

abbrev cross_e : E → E → E → E → E
cross_e a b c d = a ⊠ b ⊞ ⊟ (c ⊠ d)

-- the entries of a column, the last one from place 2 on
abbrev pub along : {A : Type 0} → (ℕ → A) → ℕ → A
along v zero = v 0
along v (suc zero) = v 1
along v (suc (suc i)) = v 2

module _ (R : CommRing) where
  abbrev dot : (a b : ℕ → R.Car) → R.Car
  dot a b = dot₃ R (a 0) (b 0) (a 1) (b 1) (a 2) (b 2)

  pub record IsCross (a b x : ℕ → R.Car) : Type 0 where
    pub one : x 0 ≡ cross₂ R (a 1) (b 2) (a 2) (b 1)
    pub in_x : x 1 ≡ cross₂ R (a 2) (b 0) (a 0) (b 2)
    pub in_y : x 2 ≡ cross₂ R (a 0) (b 1) (a 1) (b 0)

  dot_cross : (v a b x : ℕ → R.Car) → IsCross a b x → dot v x ≡ determinant (ops R) v a b
  dot_cross v a b x h i = dot₃ R (v 0) (h.one i) (v 1) (h.in_x i) (v 2) (h.in_y i)

  abbrev rule : (E → E → E → E) → E → E → E → E → E → E → E → E → E → E → E → E → E
  rule pick a0 a1 a2 b0 b1 b2 c0 c1 c2 d0 d1 d2 = dot_e a0 (cross_e b1 c2 b2 c1) a1 (cross_e b2 c0 b0 c2) a2 (cross_e b0 c1 b1 c0) ⊠ pick d0 d1 d2

  abbrev sides : (E → E → E → E) → E → E → E → E → E → E → E → E → E → E → E → E → E
  sides pick a0 a1 a2 b0 b1 b2 c0 c1 c2 d0 d1 d2 =
      dot_e (dot_e d0 (cross_e b1 c2 b2 c1) d1 (cross_e b2 c0 b0 c2) d2 (cross_e b0 c1 b1 c0)) (pick a0 a1 a2)
      (dot_e d0 (cross_e c1 a2 c2 a1) d1 (cross_e c2 a0 c0 a2) d2 (cross_e c0 a1 c1 a0)) (pick b0 b1 b2)
      (dot_e d0 (cross_e a1 b2 a2 b1) d1 (cross_e a2 b0 a0 b2) d2 (cross_e a0 b1 a1 b0)) (pick c0 c1 c2)

  module _ (a b c d : ℕ → R.Car) where
    cramer_one : R.mul (determinant (ops R) a b c) (d 0)
        ≡ dot₃ R (determinant (ops R) d b c) (a 0) (determinant (ops R) d c a) (b 0) (determinant (ops R) d a b) (c 0)
    cramer_one =
        solve R 12 (rule (λ u v w. u)) (sides (λ u v w. u)) tt (a 0) (a 1) (a 2) (b 0) (b 1) (b 2) (c 0) (c 1) (c 2) (d 0) (d 1) (d 2)

    cramer_x : R.mul (determinant (ops R) a b c) (d 1)
        ≡ dot₃ R (determinant (ops R) d b c) (a 1) (determinant (ops R) d c a) (b 1) (determinant (ops R) d a b) (c 1)
    cramer_x =
        solve R 12 (rule (λ u v w. v)) (sides (λ u v w. v)) tt (a 0) (a 1) (a 2) (b 0) (b 1) (b 2) (c 0) (c 1) (c 2) (d 0) (d 1) (d 2)

    cramer_y : R.mul (determinant (ops R) a b c) (d 2)
        ≡ dot₃ R (determinant (ops R) d b c) (a 2) (determinant (ops R) d c a) (b 2) (determinant (ops R) d a b) (c 2)
    cramer_y =
        solve R 12 (rule (λ u v w. w)) (sides (λ u v w. w)) tt (a 0) (a 1) (a 2) (b 0) (b 1) (b 2) (c 0) (c 1) (c 2) (d 0) (d 1) (d 2)

    module _ (x y w : ℕ → R.Car) (hx : IsCross b c x) (hy : IsCross c a y) (hw : IsCross a b w) (z : R.Car) (hz : z ≡ dot a x) (s : ℕ → R.Car) (h0 : s 0 ≡ dot d x)
        (h1 : s 1 ≡ dot d y) (h2 : s 2 ≡ dot d w) where
      z_is : z ≡ determinant (ops R) a b c
      z_is = hz ∙ dot_cross a b c x hx

      s0_is : s 0 ≡ determinant (ops R) d b c
      s0_is = h0 ∙ dot_cross d b c x hx

      s1_is : s 1 ≡ determinant (ops R) d c a
      s1_is = h1 ∙ dot_cross d c a y hy

      s2_is : s 2 ≡ determinant (ops R) d a b
      s2_is = h2 ∙ dot_cross d a b w hw

      step : (u v₀ v₁ v₂ : R.Car) → R.mul (determinant (ops R) a b c) u ≡ dot₃ R (determinant (ops R) d b c) v₀ (determinant (ops R) d c a) v₁ (determinant (ops R) d a b) v₂
          → R.mul z u ≡ dot₃ R (s 0) v₀ (s 1) v₁ (s 2) v₂
      step u v₀ v₁ v₂ e = cc (e, z_is, s0_is, s1_is, s2_is)

      pub cramer : (i : ℕ) → R.mul z (along d i) ≡ dot₃ R (s 0) (along a i) (s 1) (along b i) (s 2) (along c i)
      cramer zero = step _ _ _ _ cramer_one
      cramer (suc zero) = step _ _ _ _ cramer_x
      cramer (suc (suc i)) = step _ _ _ _ cramer_y
