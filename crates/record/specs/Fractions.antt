-- Records of fractions in bytes. Document 02, 2026-01: "a record of kind 36 and length 76, with nine coefficients c0 to c8, and p as a separate
-- unsigned 32-bit number".
--   fractions_kind, fractions_size     36 and 76
--   signed n               the signed number that has the 32 bits of n
--   numerator s i, denominator s i     those of the coefficient ci
--   residue p a            the residue of the whole number a modulo p
--   Quotient p a d c       c is the number from 0 to p − 1 that times d gives a modulo p
--   ReducedCurve s p w     w is the curve record of these numbers
--   AcceptedReduced s p w  … and is accepted
--   FractionsForm s        length and kind are right
--   DenominatorsPass s p   no denominator is divisible by p
--   fractions_stages s p   what is checked before the result buffer, in order: 12, 3, 13, 5
use Rattle.std.specs.Prelude.{◌≡◌, cond, List, [], ◌∷◌, ℕ, suc, ◌+◌, ◌*◌, ◌%◌, ◌<◌, length, get_or, ℤ, pos, negsuc, ◌-ℤ◌, leb}
use Rattle.algebra.specs.Ring.{CommRing}
use Rattle.field.specs.Residue.{Z, el}
use Rattle.layout.specs.Layout.{number2, number4, record_bytes}
use Rattle.record.specs.Cause.{Stage, must, Sized}
use Rattle.record.specs.Curve.{curve_kind, prime_stage, AcceptedCurve}

abbrev pub fractions_kind : ℕ
fractions_kind = 36

abbrev pub fractions_size : ℕ
fractions_size = 76

-- two's complement: from 2³¹ on, n stands for n − 2³²
unfoldable pub signed : ℕ → ℤ
signed n = cond (leb 2147483648 n) (pos n -ℤ pos 4294967296) (pos n)

-- "Each coefficient is a signed 32-bit numerator (two's complement) and after it an unsigned 32-bit denominator."
abbrev pub numerator : List ℕ → ℕ → ℤ
numerator s i = signed (number4 s (4 + 8 * i))

abbrev pub denominator : List ℕ → ℕ → ℕ
denominator s i = number4 s (8 + 8 * i)

unfoldable pub residue : (p : ℕ) → ℤ → (Z p).Car
residue p (pos n) = el p n
residue p (negsuc n) = (Z p).neg (el p (suc n))

-- "each c is the number from 0 to p − 1 that times the denominator gives the numerator modulo p"
pub record Quotient (p : ℕ) (a : ℤ) (d c : ℕ) : Type 0 where
  pub below : c < p
  pub times : (Z p).mul (el p c) (el p d) ≡ residue p a

-- "The result is a curve record"
pub record ReducedCurve (s : List ℕ) (p : ℕ) (w : List ℕ) : Type 0 where
  pub cs : List ℕ
  pub nine : length cs ≡ 9
  pub each : (i : ℕ) → i < 9 → Quotient p (numerator s i) (denominator s i) (get_or cs i 0)
  pub bytes : w ≡ record_bytes curve_kind (p ∷ cs)

-- "The reduced curve must pass as any curve record does."
abbrev pub AcceptedReduced : (s : List ℕ) (p : ℕ) (w : List ℕ) → Type 0
AcceptedReduced s p w = ReducedCurve s p w × AcceptedCurve w

-- otherwise: "length or kind wrong"
abbrev pub FractionsForm : List ℕ → Type 0
FractionsForm s = Sized s × (number2 s 2 ≡ fractions_kind) × (length s ≡ fractions_size)

-- otherwise: "a denominator divisible by p, zero included"
abbrev pub DenominatorsPass : List ℕ → ℕ → Type 0
DenominatorsPass s p = (i : ℕ) → i < 9 → ¬ (denominator s i % p ≡ 0)

-- "12, length or kind wrong, first of all; then 3; 13, a denominator divisible by p, zero included; then 5". Behind 3 and 13 there is one
-- reduced curve, and 5 says that it is singular.
abbrev pub fractions_stages : List ℕ → ℕ → List Stage
fractions_stages s p =
    must 12 (FractionsForm s) ∷ prime_stage p ∷ must 13 (DenominatorsPass s p) ∷ must 5 ((w : List ℕ) × AcceptedReduced s p w) ∷ []
