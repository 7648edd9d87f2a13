-- Steps of the functions that read numbers of w bits of bytes.
--   packed-from        the numbers from place i on, the first of them apart
--   few                the number of at most k bytes is below 2^(8·k)
--   joined             a number shifted past another one, with that one put in
--   Summed s at n i    last: n is the number of the bytes from place i on, and no byte before place `at` is summed
--   summed-start, summed-more, summed-all      … at the start, with a byte more, and at the end
--   five_last, five_whole      five: fewer than five bytes, and four bytes with a fifth
--   power              read_bits: 1 << w
--   skip_fits, bits_fit        read_bits: a mask bounds what it leaves
--   bits-from          read_bits: the bits from bit `from` on, of 40 bits from its byte on
use mathlib.Core.Path.{◌≡◌, sym, ap, ◌∙◌}
use mathlib.Core.List.{List}
use mathlib.Core.Logic.{⊎_elim}
use Prim.Native.Nat.{ℕ, suc, ◌+◌, ◌-◌, ◌*◌, ◌/◌, ◌%◌, ◌^◌, ◌<◌, ◌≤◌, min}
use native.Mathlib.Nat.{mod-eq_of_lt, lt_of_lt_of_le, lt_of_le_of_lt, eq-or-lt_of_le, one-mul}
use native.Mathlib.Omega.{arith}
use lib.Bits.{bit_and, bit_or, and_le_r, and_mask, or_shifted}
use lib.ListN.{length, get_or, drop, length-drop, drop_of_length-le}
use lib.Pow.{pow_mono, shl_exact, shr-shr, low}
use lib.Seq.{drop-cons}
use mir.Syntax.{w32}
use mir.Val.{Fits}
use Rattle.layout.specs.Layout.{Bytes, number4}
use Rattle.layout.specs.Contract.{Read4}
use Rattle.layout.proofs.Bytes.{bytes_drop}
use Rattle.packing.specs.Packing.{packed}
use Rattle.packing.proofs.Laws.{packed-below, packed_drop, window}

packed-from : (w : ℕ) (ns : List ℕ) (i k : ℕ) → suc i ≡ k → i < length ns → packed w (drop i ns) ≡ get_or ns i 0 + 2 ^ w * packed w (drop k ns)
unfolding packed
packed-from w ns i k e h = ap (packed w) (drop-cons ns i 0 h) ∙ ap (λ (j : ℕ). get_or ns i 0 + 2 ^ w * packed w (drop j ns)) e

few : (k : ℕ) (s : List ℕ) (i : ℕ) → Bytes s → length s ≤ i + k → packed 8 (drop i s) < 2 ^ (8 * k)
few k s i b h =
    lt_of_lt_of_le (packed-below 8 (drop i s) (bytes_drop i s b)) (pow_mono (omega (arith, length-drop i s)))

joined : (a k n : ℕ) → k ≤ 64 → a < 2 ^ (64 - k) → n < 2 ^ k → bit_or (a * 2 ^ k % 2 ^ 64) n ≡ a * 2 ^ k + n
joined a k n l h g = ap (λ (m : ℕ). bit_or m n) (shl_exact (64 - k) k 64 h (omega arith)) ∙ or_shifted a k n g

pub record Summed (s : List ℕ) (at n i : ℕ) : Type 0 where
  pub is : n ≡ packed 8 (drop i s)
  pub inside : i ≤ length s
  pub behind : min at (length s) ≤ i

module _ (s : List ℕ) (at : ℕ) where
  pub summed-start : (i : ℕ) → i ≡ length s → Summed s at 0 i
  unfolding packed
  summed-start i e = record { is = ap (packed 8) (sym (drop_of_length-le s {i = i} (omega arith))); inside = omega arith; behind = omega arith }

  pub summed-more : (n i : ℕ) → Bytes s → length s < at + 5 → at < i → Summed s at n i → Summed s at (bit_or (n * 2 ^ 8 % 2 ^ 64) (get_or s (i - 1) 0)) (i - 1)
  summed-more n i b h l S =
      record {
        is =
            joined n 8 (get_or s (i - 1) 0) (omega arith) (omega (arith, S.is, few 3 s i b (omega arith))) (b (i - 1))
            ∙ omega (arith, S.is, packed-from 8 s (i - 1) i (omega arith) (omega (arith, S.inside)));
        inside = omega (arith, S.inside);
        behind = omega arith;
      }

  pub summed-all : (n i : ℕ) → i ≤ at → Summed s at n i → n ≡ packed 8 (drop at s)
  summed-all n i h S =
      S.is
      ∙ ap (packed 8)
      (⊎_elim (λ e. ap (λ (k : ℕ). drop k s) e)
      (λ l. drop_of_length-le s {i = i} (omega (arith, S.behind)) ∙ sym (drop_of_length-le s {i = at} (omega (arith, S.behind)))) (eq-or-lt_of_le h))

  pub five_last : (r : ℕ) → Bytes s → length s < at + 5 → r ≡ packed 8 (drop at s) → r ≡ packed 8 (drop at s) % 2 ^ 40
  five_last r b h e = e ∙ sym (mod-eq_of_lt (few 5 s at b (omega arith)))

  -- the first five bytes, and the others
  five_bytes : at + 5 ≤ length s → packed 8 (drop at s) ≡ packed 8 (drop (at + 5) s) * 2 ^ 40 + (get_or s (at + 4) 0 * 2 ^ 32 + number4 s at)
  unfolding number4
  five_bytes h =
      omega (
        arith,
        packed-from 8 s at (at + 1) (omega arith) (omega arith),
        packed-from 8 s (at + 1) (at + 2) (omega arith) (omega arith),
        packed-from 8 s (at + 2) (at + 3) (omega arith) (omega arith),
        packed-from 8 s (at + 3) (at + 4) (omega arith) (omega arith),
        packed-from 8 s (at + 4) (at + 5) (omega arith) (omega arith),
      )

  pub five_whole : (p n : ℕ) → Bytes s → at + 5 ≤ length s → Read4 s at n → p ≡ 2 ^ 32
      → bit_or (get_or s (at + 4) 0 * p % 2 ^ 64) n ≡ packed 8 (drop at s) % 2 ^ 40
  five_whole p n b h R e =
      let high : ℕ = get_or s (at + 4) 0 in
      ap (λ (q : ℕ). bit_or (high * q % 2 ^ 64) n) e
      ∙ joined high 32 n (omega arith) (omega (arith, b (at + 4))) R.small
      ∙ ap (λ (m : ℕ). high * 2 ^ 32 + m) R.is
      ∙ sym (ap (λ (m : ℕ). m % 2 ^ 40) (five_bytes h) ∙ low (packed 8 (drop (at + 5) s)) 40 (omega (arith, b (at + 4), R.is, R.small)))

pub power : (w : ℕ) → w ≤ 32 → 1 * 2 ^ w % 2 ^ 64 ≡ 2 ^ w
power w h = shl_exact {a = 1} 1 w 64 (omega arith) (omega arith) ∙ one-mul (2 ^ w)

pub skip_fits : (n m : ℕ) → m < 64 → bit_and n m < 64
skip_fits n m h = lt_of_le_of_lt (and_le_r n m) h

pub bits_fit : (r k w m : ℕ) → w ≤ 32 → m < 2 ^ w → Fits w32 (bit_and (r / 2 ^ k) m)
bits_fit r k w m h l = omega (arith, and_le_r (r / 2 ^ k) m, pow_mono h)

pub bits-from : (s : List ℕ) (from w k m r : ℕ) → Bytes s → w ≤ 32 → r ≡ packed 8 (drop (from / 8) s) % 2 ^ 40 → k ≡ from % 8 → m ≡ 2 ^ w - 1
    → bit_and (r / 2 ^ k) m ≡ packed 8 s / 2 ^ from % 2 ^ w
bits-from s from w k m r b h er ek em =
    let n : ℕ = packed 8 s in
    let at : ℕ = from / 8 in
    ap (bit_and (r / 2 ^ k)) em
    ∙ and_mask (r / 2 ^ k) w
    ∙ ap (λ (q : ℕ). q / 2 ^ k % 2 ^ w) (er ∙ ap (λ (q : ℕ). q % 2 ^ 40) (packed_drop 8 at s b))
    ∙ window (n / 2 ^ (8 * at)) 40 k w (omega arith)
    ∙ ap (λ (q : ℕ). q % 2 ^ w) (shr-shr n (8 * at) k)
    ∙ ap (λ (j : ℕ). n / 2 ^ j % 2 ^ w) (omega arith)
