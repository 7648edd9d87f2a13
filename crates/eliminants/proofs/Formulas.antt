-- The polynomials of a divisor, by their coefficients.
-- Plan: each equation is one call of the ring solver over plain variables. The coefficients 0 and 1 have the residues zero and one, and those that
-- are computed have the residues that the field's functions ensure; so the equation carries over to the coefficients by congruence.
--   one_law line_law square_law      the equations: 1, t + c0 and t² + c1·t + c0
--   in_x_31_law                      (x + g2)·f − f2·g
--   in_y_21_law, in_y_31_law, first_law     y + f1·a + f0; y² + h2·y + h1·a + h0; f at x = a
--   one_of line_of square-of         the polynomials 1, t + c0 and t² + c1·t + c0 modulo p
--   in_x_31_of, in_y_21_of, in_y_31-of, first_of     those with computed coefficients
use mathlib.Core.Path.{◌≡◌}
use Prim.Native.Nat.{ℕ, ◌<◌}
use native.Mathlib.Omega.{arith}
use Rattle.algebra.specs.Ring.{CommRing, ops}
use Rattle.algebra.proofs.Norm.{E-ops, nil, unit}
use Rattle.algebra.proofs.Solve.{solve, ◌⊞◌, ◌⊠◌, ⊟◌}
use Rattle.field.specs.Residue.{Z, el}
use Rattle.field.specs.Contract.{Is}
use Rattle.field.proofs.Element.{el-zero, el-one}
use Rattle.roots.specs.declared.Cubic.{Cubic}
use Rattle.roots.specs.Contract.{cubic}
use Rattle.eliminants.specs.Contract.{Coefficients}
use Rattle.eliminants.specs.Parts.{Stands}

module _ (R : CommRing) where
  open R use {Car, zero, one, add as ◌+◌, mul as ◌·◌, neg as -◌}

  infixl 60 ◌+◌
  infixl 70 ◌·◌
  infix 80 -◌
  one_law : (t : Car) → cubic (ops R) one zero zero zero t ≡ one
  one_law = solve R 1 (λ t. cubic E-ops unit nil nil nil t) (λ t. unit) tt

  line_law : (c0 t : Car) → cubic (ops R) c0 one zero zero t ≡ t + c0
  line_law = solve R 2 (λ c0 t. cubic E-ops c0 unit nil nil t) (λ c0 t. t ⊞ c0) tt

  square_law : (c0 c1 t : Car) → cubic (ops R) c0 c1 one zero t ≡ t · t + c1 · t + c0
  square_law = solve R 3 (λ c0 c1 t. cubic E-ops c0 c1 unit nil t) (λ c0 c1 t. t ⊠ t ⊞ c1 ⊠ t ⊞ c0) tt

  in_x_31_law : (f0 f1 f2 g0 g1 g2 t : Car)
      → cubic (ops R) (f0 · g2 + - (f2 · g0)) (f1 · g2 + f0 + - (f2 · g1)) (f1 + g2) one t
      ≡ (t · t + f1 · t + f0) · (t + g2) + - (f2 · (g1 · t + g0))
  in_x_31_law =
      solve R 7 (λ f0 f1 f2 g0 g1 g2 t. cubic E-ops (f0 ⊠ g2 ⊞ ⊟ (f2 ⊠ g0)) (f1 ⊠ g2 ⊞ f0 ⊞ ⊟ (f2 ⊠ g1)) (f1 ⊞ g2) unit t)
      (λ f0 f1 f2 g0 g1 g2 t. (t ⊠ t ⊞ f1 ⊠ t ⊞ f0) ⊠ (t ⊞ g2) ⊞ ⊟ (f2 ⊠ (g1 ⊠ t ⊞ g0))) tt

  in_y_21_law : (f0 f1 a t : Car) → cubic (ops R) (f1 · a + f0) one zero zero t ≡ t + f1 · a + f0
  in_y_21_law = solve R 4 (λ f0 f1 a t. cubic E-ops (f1 ⊠ a ⊞ f0) unit nil nil t) (λ f0 f1 a t. t ⊞ f1 ⊠ a ⊞ f0) tt

  in_y_31_law : (h0 h1 h2 a t : Car) → cubic (ops R) (h1 · a + h0) h2 one zero t ≡ t · t + h2 · t + h1 · a + h0
  in_y_31_law = solve R 5 (λ h0 h1 h2 a t. cubic E-ops (h1 ⊠ a ⊞ h0) h2 unit nil t) (λ h0 h1 h2 a t. t ⊠ t ⊞ h2 ⊠ t ⊞ h1 ⊠ a ⊞ h0) tt

  first_law : (f0 f1 f2 a t : Car) → cubic (ops R) ((a + f1) · a + f0) f2 zero zero t ≡ a · a + f2 · t + f1 · a + f0
  first_law =
      solve R 5 (λ f0 f1 f2 a t. cubic E-ops ((a ⊞ f1) ⊠ a ⊞ f0) f2 nil nil t) (λ f0 f1 f2 a t. a ⊠ a ⊞ f2 ⊠ t ⊞ f1 ⊠ a ⊞ f0) tt

abbrev polynomial : (c0 c1 c2 c3 : ℕ) → Cubic
polynomial c0 c1 c2 c3 = record { c0 = c0; c1 = c1; c2 = c2; c3 = c3 }

module _ {p : ℕ} (large : 1 < p) where
  open Z p use {Car, one, add as ◌+◌, mul as ◌·◌, neg as -◌}

  infixl 60 ◌+◌
  infixl 70 ◌·◌
  infix 80 -◌
  coefficients : {c0 c1 c2 c3 : ℕ} → c0 < p → c1 < p → c2 < p → c3 < p → Coefficients p (polynomial c0 c1 c2 c3)
  coefficients b0 b1 b2 b3 = record { below_c0 = b0; below_c1 = b1; below_c2 = b2; below_c3 = b3 }

  zero-below : 0 < p
  zero-below = omega arith

  pub one_of : Stands p (polynomial 1 0 0 0) (λ t. one)
  one_of = record { below = coefficients large zero-below zero-below zero-below; is = λ t. cc (one_law (Z p) t, el-zero p, el-one p) }

  pub line_of : (n : ℕ) → n < p → Stands p (polynomial n 1 0 0) (λ t. t + el p n)
  line_of n b = record { below = coefficients b large zero-below zero-below; is = λ t. cc (line_law (Z p) (el p n) t, el-zero p, el-one p) }

  pub square-of : (n0 n1 : ℕ) → n0 < p → n1 < p → Stands p (polynomial n0 n1 1 0) (λ t. t · t + el p n1 · t + el p n0)
  square-of n0 n1 b0 b1 =
      record { below = coefficients b0 b1 large zero-below; is = λ t. cc (square_law (Z p) (el p n0) (el p n1) t, el-zero p, el-one p) }

  pub in_x_31_of : (f0 f1 f2 g0 g1 g2 : ℕ) {c0 c1 c2 high low : ℕ} → Is p c2 (el p f1 + el p g2) → Is p high (el p f1 · el p g2 + el p f0)
      → Is p c1 (el p high + - (el p f2 · el p g1)) → Is p low (el p f0 · el p g2) → Is p c0 (el p low + - (el p f2 · el p g0))
      → Stands p (polynomial c0 c1 c2 1) (λ t. (t · t + el p f1 · t + el p f0) · (t + el p g2) + - (el p f2 · (el p g1 · t + el p g0)))
  in_x_31_of f0 f1 f2 g0 g1 g2 h2 hh h1 hl h0 =
      record {
        below = coefficients h0.below h1.below h2.below large;
        is = λ t. cc (in_x_31_law (Z p) (el p f0) (el p f1) (el p f2) (el p g0) (el p g1) (el p g2) t, h0.is, hl.is, h1.is, hh.is, h2.is, el-one p);
      }

  pub in_y_21_of : (f0 f1 a : ℕ) {c0 : ℕ} → Is p c0 (el p f1 · el p a + el p f0)
      → Stands p (polynomial c0 1 0 0) (λ t. t + el p f1 · el p a + el p f0)
  in_y_21_of f0 f1 a h =
      record {
        below = coefficients h.below large zero-below zero-below;
        is = λ t. cc (in_y_21_law (Z p) (el p f0) (el p f1) (el p a) t, h.is, el-zero p, el-one p);
      }

  pub in_y_31-of : (h0 h1 h2 a : ℕ) {c0 : ℕ} → h2 < p → Is p c0 (el p h1 · el p a + el p h0)
      → Stands p (polynomial c0 h2 1 0) (λ t. t · t + el p h2 · t + el p h1 · el p a + el p h0)
  in_y_31-of h0 h1 h2 a b h =
      record {
        below = coefficients h.below b large zero-below;
        is = λ t. cc (in_y_31_law (Z p) (el p h0) (el p h1) (el p h2) (el p a) t, h.is, el-zero p, el-one p);
      }

  pub first_of : (f0 f1 f2 a : ℕ) {sum c0 : ℕ} → f2 < p → Is p sum (el p a + el p f1) → Is p c0 (el p sum · el p a + el p f0)
      → Stands p (polynomial c0 f2 0 0) (λ t. el p a · el p a + el p f2 · t + el p f1 · el p a + el p f0)
  first_of f0 f1 f2 a b hs h =
      record {
        below = coefficients h.below b zero-below zero-below;
        is = λ t. cc (first_law (Z p) (el p f0) (el p f1) (el p f2) (el p a) t, h.is, hs.is, el-zero p);
      }
