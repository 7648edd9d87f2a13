-- What the functions on packed numbers require and ensure.
--   LengthOf n r           bit_length: r is the bit length of n, at most 32
--   laid d at k n          the bytes d with the k lowest bytes of n from place `at` on
--   PackAsked d at ns w    pack: numbers of at most 32 bits, each below 2^w, and room for them
use Rattle.std.specs.Prelude.{◌≡◌, List, ◌++◌, ℕ, ◌+◌, ◌^◌, ◌<◌, ◌≤◌, length, get_or, take, drop}
use Rattle.packing.specs.Packing.{bit_length, unpacked, filled}

pub record LengthOf (n r : ℕ) : Type 0 where
  pub is : r ≡ bit_length n
  pub small : r ≤ 32

abbrev pub laid : (d : List ℕ) (at k n : ℕ) → List ℕ
laid d at k n = take at d ++ unpacked 8 k n ++ drop (at + k) d

pub record PackAsked (d : List ℕ) (at : ℕ) (ns : List ℕ) (w : ℕ) : Type 0 where
  pub width : w ≤ 32
  pub few : length ns ≤ 1000
  pub below : (i : ℕ) → i < length ns → get_or ns i 0 < 2 ^ w
  pub near : at ≤ 65536
  pub room : at + filled w (length ns) ≤ length d
