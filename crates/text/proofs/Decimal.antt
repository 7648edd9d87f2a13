-- Decimal numbers: by their last digit, and how many digits there are.
--   decimal-small, decimal-large    a number below 10; any other by its last digit and the rest
--   ten-digits       ten digits at most below 2³²
--   length_large     a number from 10 on has one digit more than a tenth of it
use mathlib.Core.Path.{◌≡◌, refl, sym, ap, ◌∙◌}
use mathlib.Core.List.{List, [], ◌∷◌, ◌++◌}
use Prim.Native.Nat.{ℕ, zero, suc, ◌+◌, ◌*◌, ◌/◌, ◌%◌, ◌≤◌, ◌<◌}
use native.Mathlib.Decide.{dec_lt}
use native.Mathlib.Omega.{arith}
use borrow.Author.Tests.{lt-ltb, le-ltb}
use lib.ListN.{length, length-append}
use Rattle.text.specs.Decimal.{digit, decimal_upto, decimal}

upto-small : (k n : ℕ) → n < 10 → decimal_upto k n ≡ digit n ∷ []
unfolding decimal_upto
upto-small zero n h = refl
upto-small (suc k) n h = rw (lt-ltb n 10 h, decimal_upto)

upto-large : (k n : ℕ) → 10 ≤ n → decimal_upto (suc k) n ≡ decimal_upto k (n / 10) ++ digit (n % 10) ∷ []
unfolding decimal_upto
upto-large k n h = rw (le-ltb n 10 h, decimal_upto)

-- any bound will do
upto-same : (j k n : ℕ) → n ≤ j → n ≤ k → decimal_upto j n ≡ decimal_upto k n
upto-same zero k n hj hk = upto-small zero n (omega arith) ∙ sym (upto-small k n (omega arith))
upto-same (suc j) zero n hj hk = upto-small (suc j) n (omega arith) ∙ sym (upto-small zero n (omega arith))
upto-same (suc j) (suc k) n hj hk = go (dec_lt n 10) (upto-same j k (n / 10))
  where
    go : Dec (n < 10) → (n / 10 ≤ j → n / 10 ≤ k → decimal_upto j (n / 10) ≡ decimal_upto k (n / 10)) → decimal_upto (suc j) n ≡ decimal_upto (suc k) n
    go (yes h) rest = upto-small (suc j) n h ∙ sym (upto-small (suc k) n h)
    go (no h) rest =
        upto-large j n (omega (arith, h)) ∙ ap (λ (ds : List ℕ). ds ++ digit (n % 10) ∷ []) (rest (omega arith) (omega arith)) ∙ sym (upto-large k n (omega (arith, h)))

pub decimal-small : (n : ℕ) → n < 10 → decimal n ≡ digit n ∷ []
unfolding decimal
decimal-small n h = upto-small n n h

pub decimal-large : (n : ℕ) → 10 ≤ n → decimal n ≡ decimal (n / 10) ++ digit (n % 10) ∷ []
unfolding decimal
decimal-large zero h = absurd (omega arith)
decimal-large (suc n) h =
    upto-large n (suc n) h
    ∙ ap (λ (ds : List ℕ). ds ++ digit (suc n % 10) ∷ []) (upto-same n (suc n / 10) (suc n / 10) (omega arith) (omega arith))

pub length_large : (n : ℕ) → 10 ≤ n → length (decimal n) ≡ length (decimal (n / 10)) + 1
length_large n h = ap length (decimal-large n h) ∙ length-append (decimal (n / 10)) (digit (n % 10) ∷ [])

-- the power of ten
power : ℕ → ℕ
power zero = 1
power (suc k) = 10 * power k

digits-upto : (k n : ℕ) → n < power (suc k) → length (decimal n) ≤ suc k
unfolding power
digits-upto zero n h = omega (arith, ap length (decimal-small n (omega arith)))
digits-upto (suc k) n h = go (dec_lt n 10) (digits-upto k (n / 10))
  where
    go : Dec (n < 10) → (n / 10 < power (suc k) → length (decimal (n / 10)) ≤ suc k) → length (decimal n) ≤ suc (suc k)
    go (yes l) rest = omega (arith, ap length (decimal-small n l))
    go (no l) rest = omega (arith, length_large n (omega (arith, l)), rest (omega arith))

pub ten-digits : (n : ℕ) → n < 4294967296 → length (decimal n) ≤ 10
unfolding power
ten-digits n h = digits-upto 9 n (omega arith)
