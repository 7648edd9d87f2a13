-- The quotient by the reciprocal k = ⌊(2^64 − 1)/p⌋: q = ⌊x·k/2^64⌋ is the quotient of x by p or one less.
--   reciprocal-low        p·k < 2^64
--   reciprocal-high       2^64 ≤ p·k + p
--   whole_below           q·p ≤ x
--   whole-near            x − q·p < 2·p
--   half-quotient half-below half-rest      the quotient by the factor of a modulus is the quotient of x by p, for x below 2^63, and what it leaves is x modulo p
--   el_turns              el (r + c·p) = el r
--   rest-small rest-large       what is left is x modulo p, without the correction and with it
use mathlib.Core.Path.{◌≡◌, sym, ◌∙◌, ap}
use Prim.Native.Nat.{ℕ, ◌+◌, ◌*◌, ◌-◌, ◌/◌, ◌%◌, ◌^◌, ◌≤◌, ◌<◌}
use native.Mathlib.Nat.{mul-le-mul, le_of_mul-le-mul_right, lt_of_mul-lt-mul_right, div-add-mod, mod-lt, add-mul-mod_self_right}
use native.Mathlib.Omega.{arith}
use Rattle.field.specs.Residue.{el}
use Rattle.field.specs.Contract.{Is}
use Rattle.field.proofs.Element.{el-same}
use Rattle.barrett.specs.Divides.{Divides}
use Rattle.barrett.specs.Contract.{high_half}

-- with n for 2^64, and s for what the high half leaves
module _ (n p x k q s : ℕ) (high : q * n + s ≡ x * k) where
  balance : q * p * n + s * p ≡ x * (p * k)
  balance = omega (arith, ap (λ (m : ℕ). m * p) high)

  below : p * k < n → q * p ≤ x
  below h =
      le_of_mul-le-mul_right {k = n}
      (omega (arith, balance, mul-le-mul {n₁ = x} {m₁ = p * k} {n₂ = x} {m₂ = n} (omega arith) (omega arith)))
      (omega arith)

  rest : 0 < p → x < n → s < n → n ≤ p * k + p → x < q * p + 2 * p
  rest pos hx hs h =
      lt_of_mul-lt-mul_right n
      (omega (
        arith,
        balance,
        mul-le-mul {n₁ = x} {m₁ = n} {n₂ = x} {m₂ = p * k + p} (omega arith) h,
        mul-le-mul {n₁ = s + 1} {m₁ = p} {n₂ = n} {m₂ = p} (omega arith) (omega arith),
        mul-le-mul {n₁ = x + 1} {m₁ = p} {n₂ = n} {m₂ = p} (omega arith) (omega arith),
      ))

reciprocal-low : (p k : ℕ) → 0 < p → k ≡ 18446744073709551615 / p → p * k < 18446744073709551616
reciprocal-low p k pos e = omega (arith, ap (◌*◌ p) e, div-add-mod 18446744073709551615 p)

reciprocal-high : (p k : ℕ) → 0 < p → k ≡ 18446744073709551615 / p → 18446744073709551616 ≤ p * k + p
reciprocal-high p k pos e = omega (arith, ap (◌*◌ p) e, div-add-mod 18446744073709551615 p, mod-lt 18446744073709551615 {m = p} pos)

module _ (p x k q : ℕ) (is : q ≡ high_half x k) where
  high : q * 18446744073709551616 + x * k % 18446744073709551616 ≡ x * k
  unfolding high_half
  high = omega (arith, is)

  quotient-below : p * k < 18446744073709551616 → q * p ≤ x
  quotient-below h = below 18446744073709551616 p x k q _ high h

  rest_below : 0 < p → x < 18446744073709551616 → 18446744073709551616 ≤ p * k + p → x < q * p + 2 * p
  rest_below pos fits h = rest 18446744073709551616 p x k q _ high pos fits (omega arith) h

module _ {p reciprocal factor shift opposite : ℕ} (d : Divides p reciprocal factor shift opposite) (x q : ℕ) (is : q ≡ high_half x reciprocal) where
  pub whole_below : q * p ≤ x
  whole_below = quotient-below p x _ q is (reciprocal-low p _ d.positive d.reciprocal_is)

  pub whole-near : x < 18446744073709551616 → x < q * p + 2 * p
  whole-near fits = rest_below p x _ q is d.positive fits (reciprocal-high p _ d.positive d.reciprocal_is)

pub el_turns : (p r c : ℕ) → el p (r + c * p) ≡ el p r
el_turns p r c = el-same p (r + c * p) r (add-mul-mod_self_right r c p)

module _ (p x q : ℕ) where
  pub rest-small : q * p ≤ x → x - q * p < p → Is p (x - q * p) (el p x)
  rest-small l h = record { below = h; is = sym (el_turns p _ q) ∙ ap (el p) (omega arith) }

  pub rest-large : q * p ≤ x → p ≤ x - q * p → x < q * p + 2 * p → Is p (x - q * p - p) (el p x)
  rest-large l h u = record { below = omega arith; is = sym (el_turns p _ (q + 1)) ∙ ap (el p) (omega arith) }

module _ {p reciprocal factor shift opposite : ℕ} (d : Divides p reciprocal factor shift opposite) (x h : ℕ) (fits : x < 9223372036854775808)
    (is : h ≡ high_half x factor) where
  half-quotient : h / 2 ^ shift ≡ x / p
  unfolding high_half
  half-quotient = ap (λ (n : ℕ). n / 2 ^ shift) is ∙ d.quotient x fits

  pub half-below : h / 2 ^ shift * p ≤ x
  half-below = omega (arith, ap (λ (n : ℕ). n * p) half-quotient, div-add-mod x p)

  pub half-rest : Is p (x - h / 2 ^ shift * p) (el p x)
  half-rest =
      rest-small p x (h / 2 ^ shift) half-below
      (omega (arith, ap (λ (n : ℕ). n * p) half-quotient, div-add-mod x p, mod-lt x {m = p} d.positive))
