-- Decimal numbers as bytes.
--   digit d          the byte of the digit d, for d below 10
--   decimal_upto k n the digits of n, for n at most k
--   decimal n        the digits of n in base 10, the highest first; the digit 0 for n = 0
--   two_digits n     n below 100 in two digits
use Rattle.std.specs.Prelude.{List, [], ◌∷◌, ◌++◌, true, false, ℕ, zero, suc, ◌+◌, ◌/◌, ◌%◌, ltb}

abbrev pub digit : ℕ → ℕ
digit d = 48 + d

unfoldable pub decimal_upto : ℕ → ℕ → List ℕ
decimal_upto zero n = digit n ∷ []
decimal_upto (suc k) n =
    elim (ltb n 10) [ true ↦ digit n ∷ [] | false ↦ decimal_upto k (n / 10) ++ digit (n % 10) ∷ [] ]

unfoldable pub decimal : ℕ → List ℕ
decimal n = decimal_upto n n

unfoldable pub two_digits : ℕ → List ℕ
two_digits n = digit (n / 10) ∷ digit (n % 10) ∷ []
