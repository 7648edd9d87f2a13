-- Numbers of w bits packed one behind the other. Document 02, 2026-09: "Each number takes w bits, where w is the bit length of p − 1, packed from the lowest bit of
-- the first byte upward, a number's lowest bit first. The last byte is filled with zero bits." This is one number, n0 + n1·2^w + n2·2^(2w) + …, and its bytes, the
-- lowest first: a byte is a number of 8 bits.
--   bit_length n       how many binary digits n has; 0 has none (digits d n: … of at most d)
--   packed w ns        the numbers ns as one number, w bits each, the first one lowest
--   unpacked w c n     the c lowest numbers of w bits of n, the lowest first
--   filled w c         how many bytes c numbers of w bits take, a byte begun being whole
use Rattle.std.specs.Prelude.{List, [], ◌∷◌, ℕ, zero, suc, ◌+◌, ◌*◌, ◌/◌, ◌%◌, ◌^◌}

unfoldable pub digits : ℕ → ℕ → ℕ
digits zero n = 0
digits (suc d) zero = 0
digits (suc d) (suc n) = suc (digits d (suc n / 2))

-- n has no more than n digits
unfoldable pub bit_length : ℕ → ℕ
bit_length n = digits n n

unfoldable pub packed : ℕ → List ℕ → ℕ
packed w [] = 0
packed w (n ∷ ns) = n + 2 ^ w * packed w ns

unfoldable pub unpacked : (w c n : ℕ) → List ℕ
unpacked w zero n = []
unpacked w (suc c) n = n % 2 ^ w ∷ unpacked w c (n / 2 ^ w)

abbrev pub filled : ℕ → ℕ → ℕ
filled w c = (w * c + 7) / 8
