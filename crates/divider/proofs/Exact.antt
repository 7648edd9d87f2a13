-- The quotient by a factor: with t < p ≤ 2·t and c·p = 2^64·t + δ for a δ of at most p, x·c over 2^64·t is the quotient of x by p, for x below 2^63.
--   low           q·2^64·t ≤ x·c where q·p ≤ x
--   high          x·c < (q + 1)·2^64·t where x < (q + 1)·p
--   exact         ⌊⌊x·c/2^64⌋/t⌋ = ⌊x/p⌋
use mathlib.Core.Path.{◌≡◌, ◌∙◌, ap}
use Prim.Native.Nat.{ℕ, ◌+◌, ◌*◌, ◌/◌, ◌≤◌, ◌<◌}
use native.Mathlib.Nat.{mul-le-mul, le_of_mul-le-mul_right, lt_of_mul-lt-mul_right, div-add-mod', mod-lt, div-mul-le_self, div-div-eq-div-mul, div-eq_of_lt-le}
use native.Mathlib.Omega.{arith}

module _ (t p c δ : ℕ) (is : c * p ≡ 18446744073709551616 * t + δ) (rest : δ ≤ p) (above : t < p) (most : p ≤ 2 * t) where
  low : (x q : ℕ) → q * p ≤ x → q * (18446744073709551616 * t) ≤ x * c
  low x q h =
      le_of_mul-le-mul_right {k = p}
      (omega (
        arith,
        ap (λ (m : ℕ). x * m) is,
        mul-le-mul {n₁ = q * p} {m₁ = 18446744073709551616 * t} {n₂ = x} {m₂ = 18446744073709551616 * t} h (omega arith),
      ))
      (omega arith)

  high : (x q : ℕ) → x < 9223372036854775808 → x < (q + 1) * p → x * c < (q + 1) * (18446744073709551616 * t)
  high x q below h =
      lt_of_mul-lt-mul_right p
      (omega (
        arith,
        ap (λ (m : ℕ). x * m) is,
        mul-le-mul {n₁ = x} {m₁ = δ} {n₂ = 9223372036854775807} {m₂ = 2 * t} (omega arith) (omega arith),
        mul-le-mul {n₁ = x + 1} {m₁ = 18446744073709551616 * t} {n₂ = (q + 1) * p} {m₂ = 18446744073709551616 * t} (omega arith) (omega arith),
      ))

  pub exact : (x : ℕ) → x < 9223372036854775808 → x * c / 18446744073709551616 / t ≡ x / p
  exact x below =
      div-div-eq-div-mul (x * c) 18446744073709551616 t
      ∙ div-eq_of_lt-le (18446744073709551616 * t)
      (low x (x / p) (div-mul-le_self x p))
      (high x (x / p) below (omega (arith, div-add-mod' x p, mod-lt x {m = p} (omega arith))))
