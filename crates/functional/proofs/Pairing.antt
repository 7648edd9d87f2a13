-- Values of a functional given by a vector lam of residues, as sums of products.
--   apply-pairing      at x^(s/3)·v: the sum of lam[n]·v[n − s] from a place up to which the products are 0
--   shifted_mono       mono n·x^(h/3)·g is y^j·g shifted by n − 4·j + h, j the class of n
use mathlib.Core.Path.{◌≡◌, sym, ◌∙◌, ap}
use mathlib.Core.List.{List}
use mathlib.Core.Logic.{◌⊎◌, ⊎_elim}
use Prim.Native.Nat.{ℕ, zero, suc, ◌+◌, ◌*◌, ◌-◌, ◌/◌, ◌%◌, ◌<◌, ◌≤◌}
use native.Mathlib.Omega.{arith}
use native.Mathlib.Decide.{dec_lt}
use Rattle.algebra.specs.Ring.{CommRing}
use Rattle.algebra.proofs.Laws as L
use Rattle.algebra.proofs.Solve.{solve, ◌⊠◌}
use Rattle.field.specs.Residue.{Z, el}
use Rattle.field.proofs.Element.{el-zero}
use Rattle.curve.specs.Curve.{Curve, Coordinate, x}
use Rattle.curve.specs.Sequence.{coefficient}
use Rattle.curve.specs.Monomial.{power, monomial, mono}
use Rattle.vector.specs.Vector.{Vec, at, res, element, x_to, y_to, width}
use Rattle.vector.specs.Contract.{pairing}
use Rattle.vector.proofs.Monomial.{shift-high, shift-low}
use Rattle.vector.proofs.Element.{element-coefficient}
use Rattle.functional.specs.Functional.{apply}
use Rattle.functional.proofs.Total.{total-same, total_range}

module _ (p s to : ℕ) (lam v : List ℕ) (C : Curve (Z p)) (vec : Vec p v) (class : s % 3 ≡ 0) (room : to ≤ width)
    (ends : (n : ℕ) → to ≤ n → (at lam n ≡ 0) ⊎ (at v (n - s) ≡ 0)) where
  open Z p use {Car, zero as 𝟘, mul as ◌·ₖ◌}

  infixl 70 ◌·ₖ◌
  abbrev moved : (Coordinate C).Car
  moved = (Coordinate C).mul (x_to p C (s / 3)) (element p C v)

  at_high : (n : ℕ) → s ≤ n → coefficient C n moved ≡ res p v (n - s)
  at_high n h =
      ap (λ m. coefficient C m moved) {x = n} {y = 3 * (s / 3) + (n - s)} (omega arith)
      ∙ shift-high C (s / 3) (n - s) (element p C v)
      ∙ element-coefficient p C vec (n - s)

  lam_zero : (n : ℕ) → at lam n ≡ 0 → res p lam n ·ₖ coefficient C n moved ≡ 𝟘
  lam_zero n e = ap (λ u. u ·ₖ coefficient C n moved) (ap (el p) e ∙ el-zero p) ∙ L.zero-mul (Z p) _

  low-zero : (n : ℕ) → n < s → res p lam n ·ₖ coefficient C n moved ≡ 𝟘
  low-zero n h = ap (λ u. res p lam n ·ₖ u) (shift-low C (s / 3) n (element p C v) (omega arith)) ∙ L.mul-zero (Z p) _

  end-zero : (n : ℕ) → to ≤ n → Dec (n < s) → res p lam n ·ₖ coefficient C n moved ≡ 𝟘
  end-zero n h (yes l) = low-zero n l
  end-zero n h (no l) =
      ⊎_elim (lam_zero n) (λ e. ap (λ u. res p lam n ·ₖ u) (at_high n (omega arith) ∙ ap (el p) e ∙ el-zero p) ∙ L.mul-zero (Z p) _) (ends n h)

  pub apply-pairing : (from : ℕ) → s ≤ from → ((n : ℕ) → n < from → (at lam n ≡ 0) ⊎ (n < s))
      → apply C width (res p lam) ((Coordinate C).mul (x_to p C (s / 3)) (element p C v)) ≡ pairing p lam v s from to
  unfolding apply
  apply-pairing from h low =
      let term : ℕ → Car = λ n. res p lam n ·ₖ coefficient C n moved in
      total_range (Z p) term from to width room (λ n l. ⊎_elim (lam_zero n) (low-zero n) (low n l)) (λ n l b. end-zero n l (dec_lt n s))
      ∙ total-same (Z p) _ _ (to - from) (λ i l. ap (λ u. res p lam (from + i) ·ₖ u) (at_high (from + i) (omega arith)))

power-add : (R : CommRing) (a : R.Car) (m n : ℕ) → power R a (m + n) ≡ R.mul (power R a m) (power R a n)
unfolding power
power-add R a zero n = ap (power R a) {x = 0 + n} {y = n} (omega arith) ∙ sym (L.one-mul R _)
power-add R a (suc m) n = ap (power R a) {x = suc m + n} {y = suc (m + n)} (omega arith) ∙ ap (R.mul a) (power-add R a m n) ∙ sym (R.mul_assoc _ _ _)

sorted : (R : CommRing) (a b y g : R.Car) → R.mul (R.mul a b) (R.mul y g) ≡ R.mul (R.mul a y) (R.mul b g)
sorted R = solve R 4 (λ a b y g. a ⊠ b ⊠ (y ⊠ g)) (λ a b y g. a ⊠ y ⊠ (b ⊠ g)) tt

pub shifted_mono : (p n h : ℕ) (C : Curve (Z p)) → 4 * (n % 3) ≤ n → h % 3 ≡ 0 → (g : (Coordinate C).Car)
    → (Coordinate C).mul (x_to p C ((n - 4 * (n % 3) + h) / 3)) ((Coordinate C).mul (y_to p C (n % 3)) g)
    ≡ (Coordinate C).mul (mono C n) ((Coordinate C).mul (x_to p C (h / 3)) g)
unfolding mono monomial
shifted_mono p n h C pole class g =
    ap (λ u. (Coordinate C).mul u ((Coordinate C).mul (y_to p C (n % 3)) g)) (ap (power (Coordinate C) (x C)) (omega arith) ∙ power-add (Coordinate C) (x C) ((n - 4 * (n % 3)) / 3) (h / 3))
    ∙ sorted (Coordinate C) _ _ _ _
