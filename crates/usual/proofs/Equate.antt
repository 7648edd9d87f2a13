-- The code's formulas are the equations for the numbers of the reduced ideal of an ideal of type 61: each an identity of the ring solver. Here s and t
-- are −u5 and −v5, and the coefficients of y³ are −a0, −c8 and so on.
--   five O t1 t2 t3 t4 s   the numbers u1 … u5 by place, with −s for u5
--   six O c3 … c8          the coefficients c3 … c8 by place
--   nine O n0 … n5         the numbers F0 … G2 by place
--   l-at, q-at, less-at    a0·u5, a0·u5² − v5, and v − a0·u5·u, as the code has them
--   f2_equals … h1_equals  the code's formula for the number is the equation's
use mathlib.Core.Path.{◌≡◌}
use mathlib.Core.List.{[], ◌∷◌}
use Prim.Native.Nat.{ℕ, zero, suc}
use Rattle.algebra.specs.Ring.{CommRing, Ops, ops}
use Rattle.algebra.proofs.Norm.{E-ops, unit}
use Rattle.algebra.proofs.Solve.{solve, solve_from, given, ◌⊞◌, ◌⊠◌, ⊟◌}
use Rattle.type61_numbers.proofs.Equations.{F2-of, r0-of, G1-of, F2G2-of, F0-of, G0-of, F2H2-of}

module _ {A : Type 0} (O : Ops A) where
  abbrev pub five : A → A → A → A → A → ℕ → A
  five t1 t2 t3 t4 s zero = O.zero
  five t1 t2 t3 t4 s (suc zero) = t1
  five t1 t2 t3 t4 s (suc (suc zero)) = t2
  five t1 t2 t3 t4 s (suc (suc (suc zero))) = t3
  five t1 t2 t3 t4 s (suc (suc (suc (suc zero)))) = t4
  five t1 t2 t3 t4 s (suc (suc (suc (suc (suc i))))) = O.neg s

  abbrev pub six : A → A → A → A → A → A → ℕ → A
  six c3 c4 c5 c6 c7 c8 zero = O.zero
  six c3 c4 c5 c6 c7 c8 (suc zero) = O.zero
  six c3 c4 c5 c6 c7 c8 (suc (suc zero)) = O.zero
  six c3 c4 c5 c6 c7 c8 (suc (suc (suc zero))) = c3
  six c3 c4 c5 c6 c7 c8 (suc (suc (suc (suc zero)))) = c4
  six c3 c4 c5 c6 c7 c8 (suc (suc (suc (suc (suc zero))))) = c5
  six c3 c4 c5 c6 c7 c8 (suc (suc (suc (suc (suc (suc zero)))))) = c6
  six c3 c4 c5 c6 c7 c8 (suc (suc (suc (suc (suc (suc (suc zero))))))) = c7
  six c3 c4 c5 c6 c7 c8 (suc (suc (suc (suc (suc (suc (suc (suc i)))))))) = c8

  abbrev pub nine : A → A → A → A → A → A → ℕ → A
  nine n0 n1 n2 n3 n4 n5 zero = n0
  nine n0 n1 n2 n3 n4 n5 (suc zero) = n1
  nine n0 n1 n2 n3 n4 n5 (suc (suc zero)) = n2
  nine n0 n1 n2 n3 n4 n5 (suc (suc (suc zero))) = n3
  nine n0 n1 n2 n3 n4 n5 (suc (suc (suc (suc zero)))) = n4
  nine n0 n1 n2 n3 n4 n5 (suc (suc (suc (suc (suc i))))) = n5

  abbrev ◌⊹◌ : A → A → A
  a ⊹ b = O.add a b

  abbrev ◌⊖◌ : A → A → A
  a ⊖ b = O.add a (O.neg b)

  abbrev ◌·◌ : A → A → A
  a · b = O.mul a b

  infixl 60 ◌⊹◌ ◌⊖◌
  infixl 70 ◌·◌
  abbrev pub l-at : A → A → A
  l-at a0 s = O.neg a0 · s

  abbrev pub q-at : A → A → A → A
  q-at a0 s t = t ⊖ l-at a0 s · s

  abbrev pub less-at : A → A → A → A → A
  less-at a0 s u v = v ⊖ l-at a0 s · u

  abbrev pub f2-at : A → A → A → A → A → A
  f2-at a0 c8 u4 s t = u4 ⊹ q-at a0 s t ⊖ O.neg c8 · s

  abbrev pub k2-at : A → A → A → A
  k2-at c7 u3 s = u3 ⊖ O.neg c7 · s

  abbrev pub r0-at : A → A → A → A → A → A → A → A
  r0-at a0 c7 u3 u4 s v4 n2 = k2-at c7 u3 s ⊖ v4 ⊹ l-at a0 s · (n2 ⊹ u4)

  abbrev pub g1-at : A → A → A → A → A → A → A → A → A
  g1-at a0 c6 u3 s v3 t n2 r0 = v3 ⊹ O.neg c6 · s ⊖ l-at a0 s · (u3 ⊹ r0) ⊖ O.neg a0 · n2 · q-at a0 s t

  abbrev pub w_at : A → A → A → A → A → A → A → A → A → A → A → A
  w_at a0 c5 c8 u2 u4 s v4 t n2 r0 n4 =
      O.neg u2 ⊹ n2 · (less-at a0 s u4 v4 ⊖ O.neg c8 · q-at a0 s t) ⊹ s · (n4 ⊹ O.neg c5) ⊖ q-at a0 s t · r0

  abbrev pub f0-at : A → A → A → A → A → A → A → A → A → A → A → A → A → A → A → A → A
  f0-at a0 c4 c7 u1 u2 u3 u4 s v2 v3 v4 t n1 n2 n4 n5 =
      u1 ⊖ v2 ⊹ n4 · u4 ⊹ l-at a0 s · u2 ⊖ n2 · (less-at a0 s u3 v3 ⊖ O.neg c7 · q-at a0 s t) ⊖ O.neg c4 · s ⊹ n5 · k2-at c7 u3 s ⊖ n1 · less-at a0 s u4 v4

  abbrev pub g0-at : A → A → A → A → A → A → A → A → A → A → A → A → A → A → A
  g0-at a0 c3 c6 u1 u3 s v1 v3 t n0 n1 n2 n4 n5 =
      v1 ⊹ O.neg c3 · s ⊖ n4 · u3 ⊹ n1 · less-at a0 s u3 v3 ⊖ O.neg c6 · (n2 · q-at a0 s t ⊖ n5 · s) ⊖ l-at a0 s · (n0 ⊹ u1)

module _ (R : CommRing) where
  open R use {Car, zero as 𝟘, one as 𝟙, mul as ◌⊗◌}

  infixl 70 ◌⊗◌
  abbrev O : Ops Car
  O = ops R

  pub f2_equals : (a0 c8 u4 s t : Car) → f2-at O a0 c8 u4 s t ≡ F2-of O a0 (six O 𝟘 𝟘 𝟘 𝟘 𝟘 c8) (five O 𝟘 𝟘 𝟘 u4 s) (five O 𝟘 𝟘 𝟘 𝟘 t)
  f2_equals =
      let e = E-ops in
      let o = e.zero in
      solve R 5 (f2-at e) (λ a0 c8 u4 s t. F2-of e a0 (six e o o o o o c8) (five e o o o u4 s) (five e o o o o t)) tt

  pub r0_equals : (a0 c7 u3 u4 s v4 n2 : Car)
      → r0-at O a0 c7 u3 u4 s v4 n2 ≡ r0-of O a0 (six O 𝟘 𝟘 𝟘 𝟘 c7 𝟘) (five O 𝟘 𝟘 u3 u4 s) (five O 𝟘 𝟘 𝟘 v4 𝟘) (nine O 𝟘 𝟘 n2 𝟘 𝟘 𝟘)
  r0_equals =
      let e = E-ops in
      let o = e.zero in
      solve R 7 (r0-at e) (λ a0 c7 u3 u4 s v4 n2. r0-of e a0 (six e o o o o c7 o) (five e o o u3 u4 s) (five e o o o v4 o) (nine e o o n2 o o o)) tt

  pub g1_equals : (a0 c6 u3 s v3 t n2 n1 n5 : Car)
      → g1-at O a0 c6 u3 s v3 t n2 (R.add n1 (R.neg n5)) ≡ G1-of O a0 (six O 𝟘 𝟘 𝟘 c6 𝟘 𝟘) (five O 𝟘 𝟘 u3 𝟘 s) (five O 𝟘 𝟘 v3 𝟘 t) (nine O 𝟘 n1 n2 𝟘 𝟘 n5)
  g1_equals =
      let e = E-ops in
      let o = e.zero in
      solve R 9 (λ a0 c6 u3 s v3 t n2 n1 n5. g1-at e a0 c6 u3 s v3 t n2 (n1 ⊞ ⊟ n5))
      (λ a0 c6 u3 s v3 t n2 n1 n5. G1-of e a0 (six e o o o c6 o o) (five e o o u3 o s) (five e o o v3 o t) (nine e o n1 n2 o o n5)) tt

  pub g2_equals : (a0 c5 c8 u2 u4 s v4 t n2 n1 n5 n4 : Car)
      → w_at O a0 c5 c8 u2 u4 s v4 t n2 (R.add n1 (R.neg n5)) n4
      ≡ F2G2-of O a0 (six O 𝟘 𝟘 c5 𝟘 𝟘 c8) (five O 𝟘 u2 𝟘 u4 s) (five O 𝟘 𝟘 𝟘 v4 t) (nine O 𝟘 n1 n2 𝟘 n4 n5)
  g2_equals =
      let e = E-ops in
      let o = e.zero in
      solve R 12 (λ a0 c5 c8 u2 u4 s v4 t n2 n1 n5 n4. w_at e a0 c5 c8 u2 u4 s v4 t n2 (n1 ⊞ ⊟ n5) n4)
      (λ a0 c5 c8 u2 u4 s v4 t n2 n1 n5 n4. F2G2-of e a0 (six e o o c5 o o c8) (five e o u2 o u4 s) (five e o o o v4 t) (nine e o n1 n2 o n4 n5)) tt

  pub f0_equals : (a0 c4 c7 u1 u2 u3 u4 s v2 v3 v4 t n1 n2 n4 n5 : Car)
      → f0-at O a0 c4 c7 u1 u2 u3 u4 s v2 v3 v4 t n1 n2 n4 n5
      ≡ F0-of O a0 (six O 𝟘 c4 𝟘 𝟘 c7 𝟘) (five O u1 u2 u3 u4 s) (five O 𝟘 v2 v3 v4 t) (nine O 𝟘 n1 n2 𝟘 n4 n5)
  f0_equals =
      let e = E-ops in
      let o = e.zero in
      solve R 16 (f0-at e)
      (λ a0 c4 c7 u1 u2 u3 u4 s v2 v3 v4 t n1 n2 n4 n5. F0-of e a0 (six e o c4 o o c7 o) (five e u1 u2 u3 u4 s) (five e o v2 v3 v4 t) (nine e o n1 n2 o n4 n5)) tt

  pub g0_equals : (a0 c3 c6 u1 u3 s v1 v3 t n0 n1 n2 n4 n5 : Car)
      → g0-at O a0 c3 c6 u1 u3 s v1 v3 t n0 n1 n2 n4 n5
      ≡ G0-of O a0 (six O c3 𝟘 𝟘 c6 𝟘 𝟘) (five O u1 𝟘 u3 𝟘 s) (five O v1 𝟘 v3 𝟘 t) (nine O n0 n1 n2 𝟘 n4 n5)
  g0_equals =
      let e = E-ops in
      let o = e.zero in
      solve R 14 (g0-at e)
      (λ a0 c3 c6 u1 u3 s v1 v3 t n0 n1 n2 n4 n5. G0-of e a0 (six e c3 o o c6 o o) (five e u1 o u3 o s) (five e v1 o v3 o t) (nine e n0 n1 n2 o n4 n5)) tt

  -- f2·(i·w) = w for f2·i = 1
  pub cleared_by : (n2 i w : Car) → n2 ⊗ i ≡ 𝟙 → n2 ⊗ (i ⊗ w) ≡ w
  cleared_by n2 i w h = solve_from R 3 (λ n2 i w. given w (n2 ⊠ i) unit ∷ []) (λ n2 i w. n2 ⊠ (i ⊠ w)) (λ n2 i w. w) tt n2 i w (h, tt)

  -- the difference f1 − g2, for f1 = r0 + g2
  pub difference-of : (r0 n5 : Car) → R.add (R.add r0 n5) (R.neg n5) ≡ r0
  difference-of = solve R 2 (λ r n. r ⊞ n ⊞ ⊟ n) (λ r n. r) tt

  pub h2_equals : (i n0 n1 n2 n4 n5 : Car) → n2 ⊗ i ≡ 𝟙
      → n2 ⊗ R.add n4 (i ⊗ R.add n0 (R.neg (n5 ⊗ R.add n1 (R.neg n5)))) ≡ F2H2-of O 𝟘 (six O 𝟘 𝟘 𝟘 𝟘 𝟘 𝟘) (five O 𝟘 𝟘 𝟘 𝟘 𝟘) (five O 𝟘 𝟘 𝟘 𝟘 𝟘) (nine O n0 n1 n2 𝟘 n4 n5)
  h2_equals i n0 n1 n2 n4 n5 h =
      solve_from R 6 (λ i n0 n1 n2 n4 n5. given (n0 ⊞ ⊟ (n5 ⊠ (n1 ⊞ ⊟ n5))) (n2 ⊠ i) unit ∷ [])
      (λ i n0 n1 n2 n4 n5. n2 ⊠ (n4 ⊞ i ⊠ (n0 ⊞ ⊟ (n5 ⊠ (n1 ⊞ ⊟ n5))))) (λ i n0 n1 n2 n4 n5. n2 ⊠ n4 ⊞ n0 ⊞ ⊟ (n5 ⊠ (n1 ⊞ ⊟ n5))) tt i n0 n1 n2 n4 n5 (h, tt)

  pub h1_equals : (n3 n4 n5 : Car) → R.add (R.neg n3) (n4 ⊗ n5) ≡ R.add (n4 ⊗ n5) (R.neg n3)
  h1_equals n3 n4 n5 = R.add_comm (R.neg n3) (n4 ⊗ n5)
