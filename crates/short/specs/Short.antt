-- Short records in bytes. Document 02, 2026-09: "New kinds 100, 111, 121, 122 and 131 stand for 0, 11, 21, 22 and 31. Each number takes w bits, where w is the bit
-- length of p − 1, packed from the lowest bit of the first byte upward, a number's lowest bit first. The last byte is filled with zero bits."
--   short_code κ           the number of the short kind that stands for κ
--   width p                w
--   body_size p κ          how many bytes the numbers of a short record take
--   short_size p κ         its length
--   short_bytes p κ ns     the short record that stands for the record of kind κ with the numbers ns
--   OfShort s κ            the kind of the short record s stands for κ
--   body s                 what stands behind its length and kind, as one number
--   short_numbers p κ s    its numbers
--   short_residue p κ s i  the residue of its i-th number
--   ZeroFilling p κ s      its filling is zero: the body is the numbers alone
--   short_form p s         what is checked of its bytes, in order: 6 for size, 7, 6 for the kind's length
--   short_rest p C s       what is checked behind the form, in order: 8, 15, 9
--   short_stages p C s     the form, and then the rest
--   AcceptedShort p C s    all of it holds
use Rattle.std.specs.Prelude.{◌≡◌, List, [], ◌∷◌, ◌++◌, ℕ, ◌+◌, ◌-◌, ◌*◌, ◌^◌, ◌<◌, length, get_or, drop}
use Rattle.algebra.specs.Ring.{CommRing}
use Rattle.field.specs.Residue.{Z, el}
use Rattle.curve.specs.Curve.{Curve}
use Rattle.divisor.specs.Kind.{Kind, code, count, IsBasis}
use Rattle.layout.specs.Layout.{number2, bytes2}
use Rattle.packing.specs.Packing.{bit_length, packed, unpacked, filled}
use Rattle.record.specs.Cause.{Stage, must, Passes, Sized}

abbrev pub short_code : Kind → ℕ
short_code κ = 100 + code κ

abbrev pub width : ℕ → ℕ
width p = bit_length (p - 1)

abbrev pub body_size : ℕ → Kind → ℕ
body_size p κ = filled (width p) (count κ)

abbrev pub short_size : ℕ → Kind → ℕ
short_size p κ = 4 + body_size p κ

unfoldable pub short_bytes : ℕ → Kind → List ℕ → List ℕ
short_bytes p κ ns = bytes2 (short_size p κ) ++ bytes2 (short_code κ) ++ unpacked 8 (body_size p κ) (packed (width p) ns)

abbrev pub OfShort : List ℕ → Kind → Type 0
OfShort s κ = number2 s 2 ≡ short_code κ

abbrev pub body : List ℕ → ℕ
body s = packed 8 (drop 4 s)

abbrev pub short_numbers : ℕ → Kind → List ℕ → List ℕ
short_numbers p κ s = unpacked (width p) (count κ) (body s)

abbrev pub short_residue : (p : ℕ) → Kind → List ℕ → ℕ → (Z p).Car
short_residue p κ s i = el p (get_or (short_numbers p κ s) i 0)

-- "The last byte is filled with zero bits.": behind the last number nothing stands
abbrev pub ZeroFilling : ℕ → Kind → List ℕ → Type 0
ZeroFilling p κ s = body s < 2 ^ (width p * count κ)

-- "this one takes the short kinds only, and its refusals 6 and 7 read their lengths and kinds"
abbrev pub short_form : ℕ → List ℕ → List Stage
short_form p s =
    must 6 (Sized s) ∷ must 7 ((κ : Kind) × OfShort s κ) ∷ must 6 ((κ : Kind) → OfShort s κ → length s ≡ short_size p κ) ∷ []

module _ (p : ℕ) (C : Curve (Z p)) where
  -- "15, a filling bit that isn't zero, after 8 and before 9"
  abbrev pub short_rest : List ℕ → List Stage
  short_rest s =
      must 8 ((κ : Kind) → OfShort s κ → (i : ℕ) → i < count κ → get_or (short_numbers p κ s) i 0 < p)
      ∷ must 15 ((κ : Kind) → OfShort s κ → ZeroFilling p κ s)
      ∷ must 9 ((κ : Kind) → OfShort s κ → IsBasis C κ (short_residue p κ s))
      ∷ []

  abbrev pub short_stages : List ℕ → List Stage
  short_stages s = short_form p s ++ short_rest s

  abbrev pub AcceptedShort : List ℕ → Type 0
  AcceptedShort s = Passes (short_stages s)
