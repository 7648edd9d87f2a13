-- Document 02, 2026-09: "Two calls move a record to the short form and back". c is the curve's bytes, a a divisor's, s a short record's, out the result buffer's.
--   short_of c s           the stages of a short record
--   IsShort c a w          w is the short form of the record a
--   IsLong c s w           w is the record for which the short record s stands
--   Shorten c a out r out'     the call to the short form
--   Lengthen c s out r out'    the call back
use Rattle.std.specs.Prelude.{◌≡◌, List, ◌++◌, ℕ, ℤ}
use Rattle.divisor.specs.Kind.{Kind, code, count}
use Rattle.layout.specs.Layout.{numbers, record_bytes}
use Rattle.record.specs.Cause.{Stage}
use Rattle.record.specs.Curve.{modulus, equation, curve_stages}
use Rattle.record.specs.Divisor.{OfKind}
use Rattle.calls.specs.Answer.{Writes}
use Rattle.calls.specs.Call.{divisor_of, room}
use Rattle.short.specs.Short.{short_bytes, OfShort, short_numbers, short_stages}

abbrev pub short_of : (c s : List ℕ) → List Stage
short_of c s = short_stages (modulus c) (equation c) s

-- the same kind and the same numbers
abbrev pub IsShort : (c a w : List ℕ) → Type 0
IsShort c a w = (κ : Kind) × OfKind a κ × (w ≡ short_bytes (modulus c) κ (numbers a 4 (count κ)))

abbrev pub IsLong : (c s w : List ℕ) → Type 0
IsLong c s w = (κ : Kind) × OfShort s κ × (w ≡ record_bytes (code κ) (short_numbers (modulus c) κ s))

-- "All calls but the call back take the old kinds only": refusals as for any divisor, and last 10.
abbrev pub Shorten : (c a out : List ℕ) → ℤ → List ℕ → Type 0
Shorten c a out = Writes room (curve_stages c ++ divisor_of c a) (IsShort c a) out

abbrev pub Lengthen : (c s out : List ℕ) → ℤ → List ℕ → Type 0
Lengthen c s out = Writes room (curve_stages c ++ short_of c s) (IsLong c s) out
