-- The demand "that every class has a record of 4 to 40 bytes", for short records: with w the bit length of p − 1, 4 + ⌈9·w/8⌉ bytes are enough for every class.
--   short-fits             an accepted short record has from 4 to 4 + ⌈9·w/8⌉ bytes
--   ShortReduced c A gs w  w is the short form of the record of the reduced ideal of the ideal that gs generate
--   OneShort most G        exactly one string of bytes has G, and it has from 4 to `most` bytes
--   short_length_suffices  there is exactly one such string of bytes, and it has from 4 to 4 + ⌈9·w/8⌉ bytes
use mathlib.Core.Path.{◌≡◌, refl, subst}
use mathlib.Core.List.{List}
use Prim.Native.Nat.{ℕ, ◌+◌, ◌≤◌}
use native.Mathlib.Omega.{arith}
use lib.ListN.{length}
use Rattle.algebra.specs.Ring.{CommRing}
use Rattle.ideal.specs.Ideal.{Generated}
use Rattle.ideal.proofs.Every.{Every}
use Rattle.curve.specs.Curve.{Coordinate}
use Rattle.divisor.specs.Kind.{Kind, count}
use Rattle.layout.specs.Layout.{numbers}
use Rattle.packing.specs.Packing.{filled}
use Rattle.record.specs.Curve.{modulus, equation, AcceptedCurve, setting_of}
use Rattle.record.proofs.Accepted.{Reads, accepted_reads}
use Rattle.record.proofs.Suffices.{OneRecord, ReducedRecord, record_length_suffices}
use Rattle.short.specs.Short.{width, short_size, short_bytes}
use Rattle.short.specs.ShortCall.{IsShort}
use Rattle.short.proofs.Width.{short-most}
use Rattle.short.proofs.Accepted.{accepted_short, short_length}
use Rattle.short.proofs.Round.{ShortRecord, short-one}

pub record OneShort (most : ℕ) (G : List ℕ → Type 0) : Type 0 where
  pub bytes : List ℕ
  pub has : G bytes
  pub only : (w : List ℕ) → G w → w ≡ bytes
  pub shortest : 4 ≤ length bytes
  pub longest : length bytes ≤ most

-- how many bytes a short record has at most
abbrev pub short-longest : List ℕ → ℕ
short-longest c = 4 + filled (width (modulus c)) 9

pub short-fits : (c s : List ℕ) → ShortRecord c s → (4 ≤ length s) × (length s ≤ short-longest c)
short-fits c s (b, accepted) =
    let k = accepted_short (modulus c) (equation c) s accepted in
    (omega (arith, k.1.long), omega (arith, k.1.long, short-most (modulus c) k.0))

abbrev pub ShortReduced : (c : List ℕ) (A : AcceptedCurve c) → List (Coordinate (equation c)).Car → List ℕ → Type 0
ShortReduced c A gs w = (a : List ℕ) × ReducedRecord (setting_of c A) (Generated (Coordinate (equation c)) gs) a × IsShort c a w

pub short_length_suffices : (c : List ℕ) (A : AcceptedCurve c) (gs : List (Coordinate (equation c)).Car)
    → ¬ Every (λ g. g ≡ (Coordinate (equation c)).zero) gs → OneShort (short-longest c) (ShortReduced c A gs)
short_length_suffices c A gs h = go (accepted_reads (modulus c) (equation c) one.bytes one.has.accepted)
  where
    one : OneRecord (ReducedRecord (setting_of c A) (Generated (Coordinate (equation c)) gs))
    one = record_length_suffices c A gs h

    go : (κ : Kind) × Reads (modulus c) (equation c) κ one.bytes → OneShort (short-longest c) (ShortReduced c A gs)
    go (κ, reads) =
        record {
          bytes = form;
          has = (one.bytes, one.has, is);
          only = λ w (a, reduced, short). short-one c one.bytes w form (subst (λ (v : List ℕ). IsShort c v w) (one.only a reduced) short) is;
          shortest = omega (arith, long);
          longest = omega (arith, long, short-most (modulus c) κ);
        }
      where
        form : List ℕ
        form = short_bytes (modulus c) κ (numbers one.bytes 4 (count κ))

        is : IsShort c one.bytes form
        is = (κ, reads.kind, refl)

        long : length form ≡ short_size (modulus c) κ
        long = short_length (modulus c) κ (numbers one.bytes 4 (count κ))
