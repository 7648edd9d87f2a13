-- The bytes of a record. Document 01, "Records": "Every record has a two-byte length (the whole record, these bytes included), a
-- two-byte kind, then four-byte numbers. All are unsigned and little-endian." A string of bytes is a list of numbers below 256.
--   Bytes s               every element of s is below 256
--   Words ns              every number of ns is below 2³²
--   number2 s i           the two-byte number at place i of s; a byte past the end counts as 0
--   number4 s i           the four-byte number at place i of s
--   numbers s i c         the c four-byte numbers from place i of s on
--   bytes2 n, bytes4 n    the two and the four bytes of n
--   all_bytes4 ns         the four bytes of each number of ns, in order
--   record_bytes k ns     the record of kind k with the numbers ns
use Rattle.std.specs.Prelude.{List, [], ◌∷◌, ◌++◌, ℕ, zero, suc, ◌+◌, ◌*◌, ◌/◌, ◌%◌, ◌<◌, length, get_or}

-- Past the end the default 0 is below 256, so this speaks of the elements alone.
abbrev pub Bytes : List ℕ → Type 0
Bytes s = (i : ℕ) → get_or s i 0 < 256

abbrev pub Words : List ℕ → Type 0
Words ns = (k : ℕ) → get_or ns k 0 < 4294967296

unfoldable pub number2 : List ℕ → ℕ → ℕ
number2 s i = get_or s i 0 + 256 * get_or s (i + 1) 0

unfoldable pub number4 : List ℕ → ℕ → ℕ
number4 s i = get_or s i 0 + 256 * get_or s (i + 1) 0 + 65536 * get_or s (i + 2) 0 + 16777216 * get_or s (i + 3) 0

unfoldable pub numbers : List ℕ → ℕ → ℕ → List ℕ
numbers s i zero = []
numbers s i (suc c) = number4 s i ∷ numbers s (i + 4) c

unfoldable pub bytes2 : ℕ → List ℕ
bytes2 n = n % 256 ∷ n / 256 % 256 ∷ []

unfoldable pub bytes4 : ℕ → List ℕ
bytes4 n = n % 256 ∷ n / 256 % 256 ∷ n / 65536 % 256 ∷ n / 16777216 % 256 ∷ []

unfoldable pub all_bytes4 : List ℕ → List ℕ
all_bytes4 [] = []
all_bytes4 (n ∷ ns) = bytes4 n ++ all_bytes4 ns

unfoldable pub record_bytes : ℕ → List ℕ → List ℕ
record_bytes kind ns = bytes2 (4 + 4 * length ns) ++ bytes2 kind ++ all_bytes4 ns
