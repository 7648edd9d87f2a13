-- What rounding does, by the quotient a / b and the rest a % b.
--   rounded-below, rounded-above    twice the rest is below b, and above it
--   rounded_even, rounded-odd       at a half, with an even and with an odd quotient
--   half_even            a half is rounded to an even number
--   rounded_nearest      no whole number is nearer to a / b: the difference is 1 / 2 at most
--   rounded_as_before    what is not a half is rounded as if halves were rounded upward
use mathlib.Core.Path.{◌≡◌, sym, ◌∙◌}
use Prim.Native.Nat.{ℕ, ◌+◌, ◌*◌, ◌/◌, ◌%◌, ◌≤◌, ◌<◌}
use native.Mathlib.Nat.{div-add-mod, mod-lt, div-eq_of_lt-le}
use native.Mathlib.Decide.{dec_lt, ℕ_discrete}
use native.Mathlib.Omega.{arith}
use borrow.Author.Tests.{lt-ltb, le-ltb, eq-eqb, ne_eqb}
use Rattle.report.specs.Report.{rounded}

module _ (a b : ℕ) where
  pub rounded-below : 2 * (a % b) < b → rounded a b ≡ a / b
  rounded-below h = rw (le-ltb b (2 * (a % b)) (omega arith), ne_eqb (2 * (a % b)) b (λ e. omega arith)) (omega arith)

  pub rounded-above : b < 2 * (a % b) → rounded a b ≡ a / b + 1
  rounded-above h = rw (lt-ltb b (2 * (a % b)) h) (omega arith)

  pub rounded_even : 2 * (a % b) ≡ b → a / b % 2 ≡ 0 → rounded a b ≡ a / b
  rounded_even e q = rw (le-ltb b (2 * (a % b)) (omega arith), ne_eqb (a / b % 2) 1 (λ o. omega arith), eq-eqb (2 * (a % b)) b e) (omega arith)

  pub rounded-odd : 2 * (a % b) ≡ b → a / b % 2 ≡ 1 → rounded a b ≡ a / b + 1
  rounded-odd e q = rw (le-ltb b (2 * (a % b)) (omega arith), eq-eqb (2 * (a % b)) b e, eq-eqb (a / b % 2) 1 q) (omega arith)

  -- "to the even digit"
  pub half_even : 2 * (a % b) ≡ b → rounded a b % 2 ≡ 0
  half_even e = go (ℕ_discrete (a / b % 2) 1)
    where
      go : Dec (a / b % 2 ≡ 1) → rounded a b % 2 ≡ 0
      go (yes o) = rw (rounded-odd e o) (omega arith)
      go (no n) = rw (rounded_even e (omega arith)) (omega arith)

  pub rounded_nearest : 0 < b → (2 * (rounded a b * b) ≤ 2 * a + b) × (2 * a ≤ 2 * (rounded a b * b) + b)
  rounded_nearest p = go (dec_lt (2 * (a % b)) b) (dec_lt b (2 * (a % b))) (ℕ_discrete (a / b % 2) 1)
    where
      go : Dec (2 * (a % b) < b) → Dec (b < 2 * (a % b)) → Dec (a / b % 2 ≡ 1)
          → (2 * (rounded a b * b) ≤ 2 * a + b) × (2 * a ≤ 2 * (rounded a b * b) + b)
      go (yes l) d c = rw (rounded-below l) (omega (arith, div-add-mod a b), omega (arith, div-add-mod a b))
      go (no n) (yes h) c = rw (rounded-above h) (omega (arith, div-add-mod a b), omega (arith, div-add-mod a b, mod-lt a p))
      go (no n) (no m) (yes o) = rw (rounded-odd (omega arith) o) (omega (arith, div-add-mod a b), omega (arith, div-add-mod a b))
      go (no n) (no m) (no o) = rw (rounded_even (omega arith) (omega arith)) (omega (arith, div-add-mod a b), omega (arith, div-add-mod a b))

  -- Document 02, 2026-05: "Shares that aren't at a half print as before." On the right stands the definition before that request.
  pub rounded_as_before : 0 < b → ¬ (2 * (a % b) ≡ b) → rounded a b ≡ (2 * a + b) / (2 * b)
  rounded_as_before p n = go (dec_lt (2 * (a % b)) b)
    where
      go : Dec (2 * (a % b) < b) → rounded a b ≡ (2 * a + b) / (2 * b)
      go (yes l) = rounded-below l ∙ sym (div-eq_of_lt-le (2 * b) (omega (arith, div-add-mod a b)) (omega (arith, div-add-mod a b)))
      go (no m) =
          rounded-above (omega arith)
          ∙ sym (div-eq_of_lt-le (2 * b) (omega (arith, div-add-mod a b)) (omega (arith, div-add-mod a b, mod-lt a p)))
