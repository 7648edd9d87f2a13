-- Accepted short records, with their kind in hand.
--   ShortReads κ s     s is a short record that stands for one of kind κ: of its length, its numbers below p, its filling zero, and a basis
--   old-code, short_code-small    the number of an old kind is below 100, and that of a short kind has two bytes
--   same-short         a short record stands for one kind
--   short_sound        what is checked of a short record refuses nothing that it passes, and with one number only
--   accepted_short, short-accepted    an accepted short record stands for one of one kind, and back
--   short-kind, short_length, bytes-short, short-own, short-body, short_back    the kind, the length, the body and the numbers of a short record that was made
--   short_reads        such a record is accepted if its numbers are below p and a basis
--   long_reads         the record for which an accepted short record stands is accepted
use mathlib.Core.Path.{◌≡◌, sym, ap, ◌∙◌, subst}
use mathlib.Core.List.{List, ◌++◌}
use Prim.Native.Nat.{ℕ, ◌+◌, ◌*◌, ◌^◌, ◌<◌, ◌≤◌}
use native.Mathlib.Omega.{arith}
use lib.ListN.{length, get_or}
use lib.Pow.{pow_mono}
use Rattle.field.specs.Residue.{Z, el}
use Rattle.curve.specs.Curve.{Curve}
use Rattle.divisor.specs.Kind.{Kind, k0, k11, k21, k22, k31, code, count, IsBasis}
use Rattle.divisor.proofs.Codes.{code_injective, count_small, basis-same}
use Rattle.layout.specs.Layout.{Bytes, Words, number2, bytes2, record_bytes}
use Rattle.layout.proofs.Bytes.{bytes_append, bytes-bytes2}
use Rattle.layout.proofs.Read.{number2-bytes2, number2-behind}
use Rattle.packing.specs.Packing.{packed, unpacked}
use Rattle.packing.proofs.Laws.{length_unpacked, unpacked-below, packed-below, unpacked-packed, packed-unpacked}
use Rattle.record.proofs.Cause.{AllSound, sound_must}
use Rattle.record.proofs.Accepted.{Reads}
use Rattle.record.proofs.Written.{written_reads}
use Rattle.short.specs.Short.{short_code, width, body_size, short_size, short_bytes, OfShort, body, short_numbers, short_residue, ZeroFilling, short_stages, AcceptedShort}
use Rattle.short.proofs.Width.{below-width, width-most, filled-power, body-most}

pub old-code : (κ : Kind) → code κ < 100
old-code k0 = omega arith
old-code k11 = omega arith
old-code k21 = omega arith
old-code k22 = omega arith
old-code k31 = omega arith

pub short_code-small : (κ : Kind) → short_code κ < 65536
short_code-small κ = omega (arith, old-code κ)

pub same-short : (s : List ℕ) (κ κ' : Kind) → OfShort s κ → OfShort s κ' → κ ≡ κ'
same-short s κ κ' e e' = code_injective κ κ' (omega (arith, e, e'))

module _ (p : ℕ) (C : Curve (Z p)) where
  pub record ShortReads (κ : Kind) (s : List ℕ) : Type 0 where
    pub kind : OfShort s κ
    pub own : number2 s 0 ≡ length s
    pub long : length s ≡ short_size p κ
    pub below : (i : ℕ) → i < count κ → get_or (short_numbers p κ s) i 0 < p
    pub filling : ZeroFilling p κ s
    pub basis : IsBasis C κ (short_residue p κ s)

  pub short_sound : (s : List ℕ) → AllSound (short_stages p C s)
  short_sound s = (sound_must _ _, (sound_must _ _, (sound_must _ _, (sound_must _ _, (sound_must _ _, (sound_must _ _, tt))))))

  pub accepted_short : (s : List ℕ) → AcceptedShort p C s → (κ : Kind) × ShortReads κ s
  accepted_short s a =
      let κ = a.1.0.0 in
      let e = a.1.0.1 in (
        κ,
        record { kind = e; own = a.0.1; long = a.1.1.0 κ e; below = a.1.1.1.0 κ e; filling = a.1.1.1.1.0 κ e; basis = a.1.1.1.1.1.0 κ e },
      )

  pub short-accepted : (κ : Kind) (s : List ℕ) → ShortReads κ s → AcceptedShort p C s
  short-accepted κ s r = (
    (omega (arith, r.long), r.own),
    (
      (κ, r.kind),
      (
        λ κ' e. subst (λ (q : Kind). length s ≡ short_size p q) (same-short s κ κ' r.kind e) r.long,
        (
          λ κ' e. subst (λ (q : Kind). (i : ℕ) → i < count q → get_or (short_numbers p q s) i 0 < p) (same-short s κ κ' r.kind e) r.below,
          (
            λ κ' e. subst (λ (q : Kind). ZeroFilling p q s) (same-short s κ κ' r.kind e) r.filling,
            (λ κ' e. subst (λ (q : Kind). IsBasis C q (short_residue p q s)) (same-short s κ κ' r.kind e) r.basis, tt),
          ),
        ),
      ),
    ),
  )

-- the short record that stands for the kind κ and the numbers ns
module _ (p : ℕ) (κ : Kind) (ns : List ℕ) where
  size_small : p ≤ 4294967296 → short_size p κ < 65536
  size_small fits = omega (arith, body-most p κ fits, count_small κ)

  pub short-kind : OfShort (short_bytes p κ ns) κ
  unfolding short_bytes bytes2
  short-kind =
      number2-behind (bytes2 (short_size p κ)) (bytes2 (short_code κ) ++ unpacked 8 (body_size p κ) (packed (width p) ns)) 0
      ∙ number2-bytes2 (short_code κ) (unpacked 8 (body_size p κ) (packed (width p) ns)) (short_code-small κ)

  pub short_length : length (short_bytes p κ ns) ≡ short_size p κ
  unfolding short_bytes bytes2
  short_length = omega (arith, length_unpacked 8 (body_size p κ) (packed (width p) ns))

  pub bytes-short : Bytes (short_bytes p κ ns)
  unfolding short_bytes
  bytes-short =
      bytes_append (bytes2 (short_size p κ) ++ bytes2 (short_code κ)) (unpacked 8 (body_size p κ) (packed (width p) ns))
      (bytes_append (bytes2 (short_size p κ)) (bytes2 (short_code κ)) (bytes-bytes2 (short_size p κ)) (bytes-bytes2 (short_code κ)))
      (unpacked-below 8 (body_size p κ) (packed (width p) ns))

  pub short-own : p ≤ 4294967296 → number2 (short_bytes p κ ns) 0 ≡ length (short_bytes p κ ns)
  unfolding short_bytes bytes2
  short-own fits =
      number2-bytes2 (short_size p κ) (bytes2 (short_code κ) ++ unpacked 8 (body_size p κ) (packed (width p) ns)) (size_small fits) ∙ sym short_length

  module _ (many : length ns ≡ count κ) (below : (i : ℕ) → get_or ns i 0 < p) where
    wide : (i : ℕ) → get_or ns i 0 < 2 ^ width p
    wide i = below-width p (get_or ns i 0) (below i)

    pub short-filling : packed (width p) ns < 2 ^ (width p * count κ)
    short-filling = subst (λ (c : ℕ). packed (width p) ns < 2 ^ (width p * c)) many (packed-below (width p) ns wide)

    pub short-body : body (short_bytes p κ ns) ≡ packed (width p) ns
    unfolding short_bytes bytes2
    short-body = packed-unpacked 8 (body_size p κ) (packed (width p) ns) (filled-power (width p) (count κ) (packed (width p) ns) short-filling)

    pub short_back : short_numbers p κ (short_bytes p κ ns) ≡ ns
    short_back =
        ap (unpacked (width p) (count κ)) short-body
        ∙ ap (λ (c : ℕ). unpacked (width p) c (packed (width p) ns)) (sym many)
        ∙ unpacked-packed (width p) ns wide

    pub short_reads : p ≤ 4294967296 → (C : Curve (Z p)) → IsBasis C κ (λ i. el p (get_or ns i 0)) → ShortReads p C κ (short_bytes p κ ns)
    short_reads fits C b =
        record {
          kind = short-kind;
          own = short-own fits;
          long = short_length;
          below = λ i l. subst (λ (ms : List ℕ). get_or ms i 0 < p) (sym short_back) (below i);
          filling = subst (λ (n : ℕ). n < 2 ^ (width p * count κ)) (sym short-body) short-filling;
          basis = basis-same C (λ i. el p (get_or ns i 0)) (short_residue p κ (short_bytes p κ ns)) κ (λ i l. ap (λ (ms : List ℕ). el p (get_or ms i 0)) (sym short_back)) b;
        }

module _ (p : ℕ) (C : Curve (Z p)) (fits : p ≤ 4294967296) (κ : Kind) (s : List ℕ) where
  pub short-words : Words (short_numbers p κ s)
  short-words i = omega (arith, unpacked-below (width p) (count κ) (body s) i, pow_mono {i = width p} {j = 32} (width-most p fits))

  pub long_reads : ShortReads p C κ s → Reads p C κ (record_bytes (code κ) (short_numbers p κ s))
  long_reads r = written_reads κ (short_numbers p κ s) (length_unpacked (width p) (count κ) (body s)) p C short-words r.below r.basis
