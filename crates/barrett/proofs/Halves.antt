-- The high half of a product of two numbers below 2^64, by the four products of their halves.
--   half_product half-sum      the high half of a·b, of a·b + c is below 2^32 if all are
--   sums_fit              a·b + c + d fits 64 bits if all are below 2^32
--   halves                x1·k1 + ⌊m/2^32⌋ + ⌊n/2^32⌋ = ⌊x·k/2^64⌋, for m = x1·k0 + ⌊x0·k0/2^32⌋ and n = x0·k1 + m mod 2^32
use mathlib.Core.Path.{◌≡◌, ◌∙◌, ap}
use Prim.Native.Nat.{ℕ, ◌+◌, ◌*◌, ◌/◌, ◌%◌, ◌<◌}
use native.Mathlib.Nat.{mul-le-mul}
use native.Mathlib.Omega.{arith}
use mir.Val.{Fits}
use mir.Syntax.{w64}
use Rattle.barrett.specs.Contract.{high_half}
use Rattle.field.proofs.Products.{product-fits, product-sum-fits}

pub half_product : (a b : ℕ) → a < 4294967296 → b < 4294967296 → a * b / 4294967296 < 4294967296
half_product a b ha hb = omega (arith, product-fits a b ha hb)

pub half-sum : (a b c : ℕ) → a < 4294967296 → b < 4294967296 → c < 4294967296 → (a * b + c) / 4294967296 < 4294967296
half-sum a b c ha hb hc = omega (arith, product-sum-fits a b c ha hb hc)

pub sums_fit : (a b c d : ℕ) → a < 4294967296 → b < 4294967296 → c < 4294967296 → d < 4294967296 → Fits w64 (a * b + c + d)
sums_fit a b c d ha hb hc hd = omega (arith, mul-le-mul {n₁ = a} {m₁ = b} {n₂ = 4294967295} {m₂ = 4294967295} (omega arith) (omega arith))

-- B = 2^32; x = x1·B + x0 and k = k1·B + k0, and x0·k0, m and n by their halves
assembled : (x1 x0 k1 k0 t l g m0 h n0 : ℕ) → x0 * k0 ≡ t * 4294967296 + l → x1 * k0 + t ≡ g * 4294967296 + m0 → x0 * k1 + m0 ≡ h * 4294967296 + n0
    → (x1 * 4294967296 + x0) * (k1 * 4294967296 + k0) ≡ (x1 * k1 + g + h) * 18446744073709551616 + (n0 * 4294967296 + l)
assembled x1 x0 k1 k0 t l g m0 h n0 e f i = omega arith

split : (a : ℕ) → a ≡ a / 4294967296 * 4294967296 + a % 4294967296
split a = omega arith

-- a quotient by 2^64 is known by what it leaves
quotient : (a r n l : ℕ) → a ≡ r * 18446744073709551616 + (n * 4294967296 + l) → n < 4294967296 → l < 4294967296 → r ≡ a / 18446744073709551616
quotient a r n l e hn hl = omega arith

module _ (x k : ℕ) where
  abbrev x0 : ℕ
  x0 = x % 4294967296

  abbrev x1 : ℕ
  x1 = x / 4294967296

  abbrev k0 : ℕ
  k0 = k % 4294967296

  abbrev k1 : ℕ
  k1 = k / 4294967296

  abbrev m : ℕ
  m = x1 * k0 + x0 * k0 / 4294967296

  abbrev n : ℕ
  n = x0 * k1 + m % 4294967296

  whole : x * k ≡ (x1 * 4294967296 + x0) * (k1 * 4294967296 + k0)
  whole = ap (λ (a : ℕ). a * k) (split x) ∙ ap (λ (a : ℕ). (x1 * 4294967296 + x0) * a) (split k)

  pub halves : x1 * k1 + m / 4294967296 + n / 4294967296 ≡ high_half x k
  unfolding high_half
  halves =
      quotient (x * k) _ (n % 4294967296) (x0 * k0 % 4294967296)
      (whole ∙ assembled x1 x0 k1 k0 _ _ _ _ _ _ (split (x0 * k0)) (split m) (split n))
      (omega arith)
      (omega arith)
