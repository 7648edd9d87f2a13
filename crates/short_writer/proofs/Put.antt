-- A length, a short kind and packed numbers, written one after the other, are a short record. x is the divisor by value, κ its kind.
--   short-room         40 bytes are room for it
--   packed_count       how many of its numbers are packed
--   pack_asked         they may be packed behind its length and kind
--   short-put          what is then in the buffer
use mathlib.Core.Path.{◌≡◌, sym, ap, ap₂, ◌∙◌, subst}
use mathlib.Core.List.{List, ◌++◌}
use Prim.Native.Nat.{ℕ, ◌+◌, ◌^◌, ◌<◌, ◌≤◌}
use native.Mathlib.Omega.{arith}
use lib.ListN.{length, get_or, take, drop}
use lib.Seq.{length-take-le, get_or-take}
use Rattle.divisor.specs.Kind.{Kind, count}
use Rattle.divisor.proofs.Codes.{count_small}
use Rattle.layout.specs.Layout.{bytes2}
use Rattle.writing.proofs.Stores.{written_behind}
use Rattle.packing.specs.Packing.{packed, unpacked, filled}
use Rattle.packing.specs.Contract.{laid, PackAsked}
use Rattle.basis.specs.Divisor.{numbers_of, Shaped}
use Rattle.basis.specs.declared.Divisor.{Divisor}
use Rattle.short.specs.Short.{short_code, width, body_size, short_size, short_bytes}
use Rattle.short.proofs.Width.{below-width, width-most, body-most}
use Rattle.short_writer.specs.Contract.{ShortWritten}

module _ (p : ℕ) (κ : Kind) (x : Divisor) (h : Shaped p κ x) (fits : p ≤ 4294967296) (w n : ℕ) (wide : w ≡ width p) (many : n ≡ count κ) where
  pub short-room : 4 + filled w n ≤ 40
  short-room =
      let same : filled w n ≡ body_size p κ = ap₂ filled wide many in
      omega (arith, body-most p κ fits, count_small κ)

  -- how many numbers are packed
  pub packed_count : length (take n (numbers_of x)) ≡ n
  packed_count = length-take-le n (numbers_of x) (omega (arith, count_small κ))

  pub pack_asked : (d : List ℕ) → 40 ≤ length d → PackAsked d 4 (take n (numbers_of x)) w
  pack_asked d l =
      record {
        width = omega (arith, width-most p fits);
        few = omega (arith, packed_count, count_small κ);
        below = λ i b.
            rw (get_or-take n (numbers_of x) i 0 (omega (arith, packed_count)))
            (subst (λ (v : ℕ). get_or (numbers_of x) i 0 < 2 ^ v) (sym wide) (below-width p (get_or (numbers_of x) i 0) (h.below i)));
        near = omega arith;
        room = rw packed_count (omega (arith, short-room));
      }

  pub short-put : (d d1 d2 d3 : List ℕ) (size kind : ℕ) → 40 ≤ length d → size ≡ 4 + filled w n → kind ≡ short_code κ
      → d1 ≡ take 0 d ++ bytes2 size ++ drop 2 d → d2 ≡ take 2 d1 ++ bytes2 kind ++ drop 4 d1 → d3 ≡ laid d2 4 (filled w (length (take n (numbers_of x)))) (packed w (take n (numbers_of x)))
      → ShortWritten p x d d3 size κ
  unfolding short_bytes
  short-put d d1 d2 d3 size kind l es ek e1 e2 e3 =
      record {
        long = long;
        bytes =
            written_behind d d1 d2 d3 (unpacked 8 (filled w n) (packed w (take n (numbers_of x)))) size kind (filled w n) (omega arith) e1 e2
            (e3 ∙ ap (λ (k : ℕ). laid d2 4 (filled w k) (packed w (take n (numbers_of x)))) packed_count)
            ∙ (λ i.
            bytes2 (long i) ++ bytes2 (ek i) ++ unpacked 8 (filled (wide i) (many i)) (packed (wide i) (take (many i) (numbers_of x)))
            ++ drop (4 + filled (wide i) (many i)) d);
      }
    where
      long : size ≡ short_size p κ
      long = es ∙ ap₂ (λ (a b : ℕ). 4 + filled a b) wide many
