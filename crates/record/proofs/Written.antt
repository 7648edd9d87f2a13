-- Records that are written: what is read of them again, and that they are accepted.
--   written-kind, written_length, written-own, written-number    the kind, the length and the numbers of the record of a kind and numbers
--   written_reads      such a record is accepted if its numbers are below p and a basis
--   written-ideal      its ideal is that of the numbers
--   length_bytes_of, bytes-bytes_of    the record of a divisor by value: its length, and that it is bytes
--   bytes_of-kind, bytes_of-own, bytes_of-number    reading its kind, its length and its numbers gives those of the value
--   bytes_of_reads, bytes_of-accepted    it is accepted if the value is a basis
--   bytes_of-ideal     its ideal is that of the value
--   Holds κ s r        the value r has the kind κ and the numbers of the record s
--   read_back          an accepted record is the record of the value that has its kind and numbers
--   read_based         such a value is a basis
use mathlib.Core.Path.{◌≡◌, sym, ap, ◌∙◌}
use mathlib.Core.Logic.Iff
use mathlib.Core.List.{List, [], ◌∷◌}
use Prim.Native.Nat.{ℕ, zero, suc, ◌+◌, ◌*◌, ◌<◌, ◌≤◌}
use native.Mathlib.Omega.{arith}
use lib.ListN.{length, get_or, take}
use lib.Seq.{get_or-take, length-take-le, ext_get_or}
use Rattle.algebra.specs.Ring.{CommRing}
use Rattle.field.specs.Residue.{Z, el}
use Rattle.ideal.specs.Ideal.{SameIdeal}
use Rattle.curve.specs.Curve.{Curve, Coordinate}
use Rattle.divisor.specs.Kind.{Kind, code, count, size, IdealOf, IsBasis}
use Rattle.layout.specs.Layout as layout
use Rattle.layout.specs.Layout.{Bytes, Words, number2, number4, record_bytes}
use Rattle.layout.proofs.Bytes.{length_record, bytes_record}
use Rattle.layout.proofs.Read.{length_numbers, numbers-at}
use Rattle.layout.proofs.Record.{alone_length, alone-kind, alone-number}
use Rattle.basis.specs.Divisor.{numbers_of, residues, Shaped, BasisValue}
use Rattle.basis.specs.declared.Divisor.{Divisor}
use Rattle.record.specs.Divisor.{OfKind, number_at, AcceptedDivisor, IdealOfBytes}
use Rattle.record.specs.Value.{bytes_of}
use Rattle.divisor.proofs.Codes.{code-small, count_small, ideal-same, basis-same}
use Rattle.record.proofs.Accepted.{Reads, reads_accepted, reads_whole, ideal_reads}

-- the first numbers of a list are below what all of them are below
take_below : (b c : ℕ) (l : List ℕ) → 0 < b → ((i : ℕ) → get_or l i 0 < b) → (i : ℕ) → get_or (take c l) i 0 < b
take_below b zero l pos h i = pos
take_below b (suc c) [] pos h i = pos
take_below b (suc c) (a ∷ l) pos h zero = h 0
take_below b (suc c) (a ∷ l) pos h (suc i) = take_below b c l pos (λ j. h (suc j)) i

module _ (κ : Kind) (ns : List ℕ) (many : length ns ≡ count κ) where
  pub written-kind : number2 (record_bytes (code κ) ns) 2 ≡ code κ
  written-kind = alone-kind (code κ) ns (code-small κ)

  pub written_length : length (record_bytes (code κ) ns) ≡ size κ
  written_length = length_record (code κ) ns ∙ ap (λ (c : ℕ). 4 + 4 * c) many

  pub written-own : number2 (record_bytes (code κ) ns) 0 ≡ length (record_bytes (code κ) ns)
  written-own = alone_length (code κ) ns (omega (arith, count_small κ))

  pub written-number : Words ns → (i : ℕ) → i < count κ → number4 (record_bytes (code κ) ns) (4 + 4 * i) ≡ get_or ns i 0
  written-number w i h = alone-number (code κ) ns w i (omega arith)

  module _ (p : ℕ) (C : Curve (Z p)) (w : Words ns) where
    written-residue : (i : ℕ) → i < count κ → number_at p (record_bytes (code κ) ns) i ≡ el p (get_or ns i 0)
    written-residue i h = ap (el p) (written-number w i h)

    pub written_reads : ((i : ℕ) → i < count κ → get_or ns i 0 < p) → IsBasis C κ (λ i. el p (get_or ns i 0)) → Reads p C κ (record_bytes (code κ) ns)
    written_reads h b =
        record {
          kind = written-kind;
          own = written-own;
          long = written_length;
          below = λ i l. rw (written-number w i l) (h i l);
          basis = basis-same C (λ i. el p (get_or ns i 0)) (number_at p (record_bytes (code κ) ns)) κ (λ i l. sym (written-residue i l)) b;
        }

    pub written-ideal : SameIdeal (Coordinate C) (IdealOfBytes p C (record_bytes (code κ) ns)) (IdealOf C κ (λ i. el p (get_or ns i 0)))
    written-ideal g =
        Iff.trans
        (ideal_reads p C κ (record_bytes (code κ) ns) written-kind g)
        (ideal-same C (number_at p (record_bytes (code κ) ns)) (λ i. el p (get_or ns i 0)) κ written-residue g)

-- the numbers that the record of a value has
first-numbers : (κ : Kind) (r : Divisor) → length (take (count κ) (numbers_of r)) ≡ count κ
first-numbers κ r = length-take-le (count κ) (numbers_of r) (count_small κ)

first-words : (κ : Kind) (r : Divisor) → ((i : ℕ) → get_or (numbers_of r) i 0 < 4294967296) → Words (take (count κ) (numbers_of r))
first-words κ r h = take_below 4294967296 (count κ) (numbers_of r) (omega arith) h

pub length_bytes_of : (κ : Kind) (r : Divisor) → length (bytes_of κ r) ≡ size κ
unfolding bytes_of
length_bytes_of κ r = written_length κ (take (count κ) (numbers_of r)) (first-numbers κ r)

pub bytes-bytes_of : (κ : Kind) (r : Divisor) → Bytes (bytes_of κ r)
unfolding bytes_of
bytes-bytes_of κ r = bytes_record (code κ) (take (count κ) (numbers_of r))

pub bytes_of-kind : (κ : Kind) (r : Divisor) → OfKind (bytes_of κ r) κ
unfolding bytes_of
bytes_of-kind κ r = written-kind κ (take (count κ) (numbers_of r)) (first-numbers κ r)

pub bytes_of-own : (κ : Kind) (r : Divisor) → number2 (bytes_of κ r) 0 ≡ length (bytes_of κ r)
unfolding bytes_of
bytes_of-own κ r = written-own κ (take (count κ) (numbers_of r)) (first-numbers κ r)

pub bytes_of-number : (κ : Kind) (r : Divisor) → ((i : ℕ) → get_or (numbers_of r) i 0 < 4294967296) → (i : ℕ) → i < count κ
    → number4 (bytes_of κ r) (4 + 4 * i) ≡ get_or (numbers_of r) i 0
unfolding bytes_of
bytes_of-number κ r w i h =
    written-number κ (take (count κ) (numbers_of r)) (first-numbers κ r) (first-words κ r w) i h ∙ get_or-take (count κ) (numbers_of r) i 0 h

module _ (p : ℕ) (C : Curve (Z p)) (fits : p ≤ 4294967296) (κ : Kind) (r : Divisor) where
  words_of : Shaped p κ r → (i : ℕ) → get_or (numbers_of r) i 0 < 4294967296
  words_of h i = omega (arith, h.below i)

  bytes_of-residue : Shaped p κ r → (i : ℕ) → i < count κ → number_at p (bytes_of κ r) i ≡ residues p r i
  bytes_of-residue h i l = ap (el p) (bytes_of-number κ r (words_of h) i l)

  pub bytes_of_reads : BasisValue p C κ r → Reads p C κ (bytes_of κ r)
  bytes_of_reads b =
      let h = b.shaped in
      record {
        kind = bytes_of-kind κ r;
        own = bytes_of-own κ r;
        long = length_bytes_of κ r;
        below = λ i l. rw (bytes_of-number κ r (words_of h) i l) (h.below i);
        basis = basis-same C (residues p r) (number_at p (bytes_of κ r)) κ (λ i l. sym (bytes_of-residue h i l)) b.basis;
      }

  pub bytes_of-accepted : BasisValue p C κ r → AcceptedDivisor p C (bytes_of κ r)
  bytes_of-accepted b = reads_accepted p C κ (bytes_of κ r) (bytes_of_reads b)

  pub bytes_of-ideal : Shaped p κ r → SameIdeal (Coordinate C) (IdealOfBytes p C (bytes_of κ r)) (IdealOf C κ (residues p r))
  bytes_of-ideal h g =
      Iff.trans
      (ideal_reads p C κ (bytes_of κ r) (bytes_of-kind κ r) g)
      (ideal-same C (number_at p (bytes_of κ r)) (residues p r) κ (bytes_of-residue h) g)

-- The value that a reader makes of a record: its kind, its numbers, all below p.
pub record Holds (p : ℕ) (κ : Kind) (s : List ℕ) (r : Divisor) : Type 0 where
  pub shaped : Shaped p κ r
  pub number : (i : ℕ) → i < count κ → get_or (numbers_of r) i 0 ≡ number4 s (4 + 4 * i)

module _ (p : ℕ) (C : Curve (Z p)) (κ : Kind) (s : List ℕ) (r : Divisor) (h : Holds p κ s r) where
  pub read_back : Bytes s → Reads p C κ s → bytes_of κ r ≡ s
  unfolding bytes_of
  read_back b a =
      let same : take (count κ) (numbers_of r) ≡ layout.numbers s 4 (count κ) =
      ext_get_or
      0
      (take (count κ) (numbers_of r))
      (layout.numbers s 4 (count κ))
      (first-numbers κ r ∙ sym (length_numbers s 4 (count κ)))
      (λ i l.
      let few : i < count κ = omega (arith, first-numbers κ r) in
      get_or-take (count κ) (numbers_of r) i 0 few ∙ h.number i few ∙ sym (numbers-at s 4 (count κ) i few)) in
      ap (record_bytes (code κ)) same ∙ sym (reads_whole p C κ s b a)

  pub read_based : IsBasis C κ (number_at p s) → BasisValue p C κ r
  read_based b =
      record {
        shaped = h.shaped;
        basis = basis-same C (number_at p s) (residues p r) κ (λ i l. ap (el p) (sym (h.number i l))) b;
      }
