-- Document 02, 2026-09, bit by bit: "packed from the lowest bit of the first byte upward, a number's lowest bit first. The last byte is filled with zero bits."
--   bit n j                bit j of the number n, the lowest being bit 0
--   bit_of-bytes s k       bit k of the bytes s, counted from the lowest bit of the first byte upward
--   packed-bytes w ns      the bytes that the numbers ns fill, w bits each
--   bit_at                 bit j of the i-th number of w bits of n is bit w·i + j of n
--   bit_placed             bit j of the i-th number is bit w·i + j of the bytes
--   bit_filling            the bits of the bytes behind the last number are 0
use mathlib.Core.Path.{◌≡◌, sym, ap, ◌∙◌}
use mathlib.Core.List.{List}
use Prim.Native.Nat.{ℕ, suc, ◌+◌, ◌*◌, ◌/◌, ◌%◌, ◌^◌, ◌<◌, ◌≤◌}
use native.Mathlib.Nat.{div-eq_of_lt, mul-le-mul_left, le_trans}
use native.Mathlib.Omega.{arith}
use lib.ListN.{length, get_or}
use lib.Pow.{pow_mono, shr-shr}
use Rattle.packing.specs.Packing.{packed, unpacked, filled}
use Rattle.packing.proofs.Laws.{window, unpacked-at, unpacked-packed, packed-below}

abbrev pub bit : ℕ → ℕ → ℕ
bit n j = n / 2 ^ j % 2

abbrev pub bit_of-bytes : List ℕ → ℕ → ℕ
bit_of-bytes s k = bit (get_or s (k / 8) 0) (k % 8)

abbrev pub packed-bytes : ℕ → List ℕ → List ℕ
packed-bytes w ns = unpacked 8 (filled w (length ns)) (packed w ns)

pub bit_at : (w c n i j : ℕ) → i < c → j < w → bit (get_or (unpacked w c n) i 0) j ≡ bit n (w * i + j)
bit_at w c n i j l h =
    ap (λ (m : ℕ). bit m j) (unpacked-at w c n i l) ∙ window (n / 2 ^ (w * i)) w j 1 (omega arith) ∙ ap (λ (m : ℕ). m % 2) (shr-shr n (w * i) j)

module _ (w : ℕ) (ns : List ℕ) (below : (i : ℕ) → get_or ns i 0 < 2 ^ w) where
  -- bit k of the bytes is bit k of the one number
  bytes_bit : (k : ℕ) → k < 8 * filled w (length ns) → bit_of-bytes (packed-bytes w ns) k ≡ bit (packed w ns) k
  bytes_bit k h =
      bit_at 8 (filled w (length ns)) (packed w ns) (k / 8) (k % 8) (omega arith) (omega arith) ∙ ap (bit (packed w ns)) (omega arith)

  pub bit_placed : (i j : ℕ) → i < length ns → j < w → bit_of-bytes (packed-bytes w ns) (w * i + j) ≡ bit (get_or ns i 0) j
  bit_placed i j l h =
      bytes_bit (w * i + j) (omega (arith, mul-le-mul_left {m = suc i} {n = length ns} w l))
      ∙ sym (bit_at w (length ns) (packed w ns) i j l h)
      ∙ ap (λ (ms : List ℕ). bit (get_or ms i 0) j) (unpacked-packed w ns below)

  pub bit_filling : (k : ℕ) → w * length ns ≤ k → k < 8 * filled w (length ns) → bit_of-bytes (packed-bytes w ns) k ≡ 0
  bit_filling k least most =
      bytes_bit k most ∙ ap (λ (m : ℕ). m % 2) (div-eq_of_lt {n = packed w ns} {m = 2 ^ k} (le_trans (packed-below w ns below) (pow_mono least)))
