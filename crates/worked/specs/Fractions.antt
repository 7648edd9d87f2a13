-- Document 02, 2026-01: "For p = 5, −1/2 becomes 2. Fractions are taken as written, so 5/5 is refused there."
--   fraction n d       the bytes of the record with c0 = n/d, where n is the numerator's 32 bits, and 0/1 for c1 to c8
--   minus_half, five_fifths, least_numerator   −1/2, 5/5 and −2147483648/1
--   two                y³ + x⁴ + 2 for p = 5
--   Becomes s p w      s is reduced to w modulo p, and the call then writes w
--   Refused s p n      s is refused with n modulo p, and the call then returns −n and leaves the buffer
use Rattle.std.specs.Prelude.{◌≡◌, List, [], ◌∷◌, ℕ, ℤ}
use Rattle.layout.specs.Layout.{record_bytes}
use Rattle.record.specs.Cause.{FirstCause}
use Rattle.record.specs.Curve.{curve_size}
use Rattle.record.specs.Fractions.{fractions_kind, fractions_stages, AcceptedReduced}
use Rattle.calls.specs.Answer.{minus}
use Rattle.calls.specs.Call.{ReduceCurve}
use Rattle.worked.specs.Table.{curve, WritesJust}

abbrev pub fraction : (n d : ℕ) → List ℕ
fraction n d =
    record_bytes fractions_kind (n ∷ d ∷ 0 ∷ 1 ∷ 0 ∷ 1 ∷ 0 ∷ 1 ∷ 0 ∷ 1 ∷ 0 ∷ 1 ∷ 0 ∷ 1 ∷ 0 ∷ 1 ∷ 0 ∷ 1 ∷ [])

abbrev pub minus_half : List ℕ
minus_half = fraction 4294967295 2

abbrev pub five_fifths : List ℕ
five_fifths = fraction 5 5

abbrev pub least_numerator : List ℕ
least_numerator = fraction 2147483648 1

abbrev pub two : List ℕ
two = curve 5 2 0 0

abbrev pub Becomes : (s : List ℕ) (p : ℕ) (w : List ℕ) → Type 0
Becomes s p w = AcceptedReduced s p w × WritesJust curve_size (ReduceCurve s p) w

abbrev pub Refused : (s : List ℕ) (p n : ℕ) → Type 0
Refused s p n =
    FirstCause (fractions_stages s p) n
    × ((out : List ℕ) (r : ℤ) (out' : List ℕ) → ReduceCurve s p out r out' → (r ≡ minus n) × (out' ≡ out))
