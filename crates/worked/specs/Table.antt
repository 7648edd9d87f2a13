-- Document 01, "Worked sums": the starred ones, as one table, and what each of them says; and a second table for one of the traps.
--   curve p c0 c1 c3   the bytes of the curve y³ + x⁴ + c3·x² + c1·x + c0 for the prime p
--   divisor κ ns       the bytes of a divisor record
--   Row                a worked sum: the curve's bytes c, the inputs, the result w or the number n of the refusal
--   Means r            what it says by the definitions of a sum, of a negative and so on, and of a refusal
--   Answer r           … and what the call then returns and leaves, whichever way it is carried out
--   WritesJust, ReturnsJust      a call that writes leaves w; a check returns n
--   Point c a b        the ideal of the point (a, b)
--   zero_class         the record of the zero class
--   E, one_two, P, D   the curves and points that they speak of
--   table              the starred sums, in the order of document 01
--   traps              singular points and bases outside the field
use Rattle.std.specs.Prelude.{◌≡◌, List, [], ◌∷◌, ◌++◌, ℕ, ◌≤◌, length, ℤ, pos}
use Rattle.field.specs.Residue.{el}
use Rattle.ideal.specs.Ideal.{Generated, SameIdeal}
use Rattle.curve.specs.Curve.{x, y, constant}
use Rattle.divisor.specs.Kind.{Kind, k0, k11, k21, k22, k31, code}
use Rattle.layout.specs.Layout.{record_bytes}
use Rattle.record.specs.Cause.{FirstCause}
use Rattle.record.specs.Curve.{curve_kind, modulus, equation, curve_stages, AcceptedCurve}
use Rattle.calls.specs.Answer.{minus, Gives}
use Rattle.calls.specs.Class.{Ring, Record, Ideal, IsSum, IsNegative, IsMultiple}
use Rattle.calls.specs.Call.{CheckCurve, CheckDivisor, Sum, Double, Negative, Multiple, divisor_of, room}

abbrev pub curve : (p c0 c1 c3 : ℕ) → List ℕ
curve p c0 c1 c3 = record_bytes curve_kind (p ∷ c0 ∷ c1 ∷ 0 ∷ c3 ∷ 0 ∷ 0 ∷ 0 ∷ 0 ∷ 0 ∷ [])

abbrev pub divisor : Kind → List ℕ → List ℕ
divisor κ ns = record_bytes (code κ) ns

pub data Row : Type 0 where
  -- w is the record of the point (a, b)
  point : (c : List ℕ) (a b : ℕ) (w : List ℕ) → Row
  -- the sum of a and b, the double, the negative and the multiple by n of a are w
  sum : (c a b w : List ℕ) → Row
  double : (c a w : List ℕ) → Row
  negative : (c a w : List ℕ) → Row
  multiple : (c a : List ℕ) (n : ℕ) (w : List ℕ) → Row
  -- the divisor a, the curve c is refused with n; it is accepted
  divisor_refused : (c a : List ℕ) (n : ℕ) → Row
  divisor_accepted : (c a : List ℕ) → Row
  curve_refused : (c : List ℕ) (n : ℕ) → Row
  curve_accepted : (c : List ℕ) → Row

-- the ideal of the point (a, b): what x − a and y − b generate
abbrev pub Point : (c : List ℕ) (a b : ℕ) → (Ring c).Car → Type 0
Point c a b =
    Generated (Ring c)
    ((Ring c).add (x (equation c)) ((Ring c).neg (constant (equation c) (el (modulus c) a)))
    ∷ (Ring c).add (y (equation c)) ((Ring c).neg (constant (equation c) (el (modulus c) b)))
    ∷ [])

abbrev pub Means : Row → Type 0
Means (point c a b w) = AcceptedCurve c × Record c w × SameIdeal (Ring c) (Ideal c w) (Point c a b)
Means (sum c a b w) = AcceptedCurve c × Record c a × Record c b × IsSum c a b w
Means (double c a w) = AcceptedCurve c × Record c a × IsSum c a a w
Means (negative c a w) = AcceptedCurve c × Record c a × IsNegative c a w
Means (multiple c a n w) = AcceptedCurve c × Record c a × IsMultiple c a (pos n) w
Means (divisor_refused c a n) = FirstCause (curve_stages c ++ divisor_of c a) n
Means (divisor_accepted c a) = AcceptedCurve c × Record c a
Means (curve_refused c n) = FirstCause (curve_stages c) n
Means (curve_accepted c) = AcceptedCurve c

-- a call that writes, on a buffer of the least length or more, returns the length of w and writes w
abbrev pub WritesJust : ℕ → (List ℕ → ℤ → List ℕ → Type 0) → List ℕ → Type 0
WritesJust least Call w =
    (out : List ℕ) (r : ℤ) (out' : List ℕ) → least ≤ length out → Call out r out' → Gives w out r out'

-- a check returns n
abbrev pub ReturnsJust : (ℤ → Type 0) → ℤ → Type 0
ReturnsJust Call n = (r : ℤ) → Call r → r ≡ n

abbrev pub Answer : Row → Type 0
Answer (point c a b w) = ReturnsJust (CheckDivisor c w) (pos 1)
Answer (sum c a b w) = WritesJust room (Sum c a b) w
Answer (double c a w) = WritesJust room (Double c a) w
Answer (negative c a w) = WritesJust room (Negative c a) w
Answer (multiple c a n w) = WritesJust room (Multiple c a (pos n)) w
Answer (divisor_refused c a n) = ReturnsJust (CheckDivisor c a) (minus n)
Answer (divisor_accepted c a) = ReturnsJust (CheckDivisor c a) (pos 1)
Answer (curve_refused c n) = ReturnsJust (CheckCurve c) (minus n)
Answer (curve_accepted c) = ReturnsJust (CheckCurve c) (pos 1)

-- Curve E: p = 5, y³ + x⁴ + 1. The point (1, 2) is given in bytes; P is (0, 4).
abbrev pub E : List ℕ
E = curve 5 1 0 0

abbrev pub one_two : List ℕ
one_two = 0x0C ∷ 0x00 ∷ 0x0B ∷ 0x00 ∷ 0x04 ∷ 0x00 ∷ 0x00 ∷ 0x00 ∷ 0x03 ∷ 0x00 ∷ 0x00 ∷ 0x00 ∷ []

abbrev pub P : List ℕ
P = divisor k11 (0 ∷ 1 ∷ [])

-- y³ + x⁴ + x for p = 2
abbrev pub D : List ℕ
D = curve 2 0 1 0

abbrev pub zero_class : List ℕ
zero_class = divisor k0 []

-- "A number 5 is refused with 8, 4 is not": 5 in place of each number of (1, 2), and in place of the 0 of P, which has the same residue;
-- then (1, 2), whose first number is 4, and 11: 4 4, which is refused with 9, since (1, 1) is not on E.
abbrev pub table : List Row
table =
    point E 1 2 one_two
    ∷ point E 2 2 (divisor k11 (3 ∷ 3 ∷ []))
    ∷ point E 3 2 (divisor k11 (2 ∷ 3 ∷ []))
    ∷ point E 4 2 (divisor k11 (1 ∷ 3 ∷ []))
    ∷ point E 0 4 P
    ∷ sum E one_two (divisor k11 (3 ∷ 3 ∷ [])) (divisor k21 (3 ∷ 0 ∷ 2 ∷ 2 ∷ []))
    ∷ sum E (divisor k21 (3 ∷ 0 ∷ 2 ∷ 2 ∷ [])) (divisor k11 (2 ∷ 3 ∷ [])) (divisor k22 (1 ∷ 4 ∷ 2 ∷ []))
    ∷ sum E (divisor k22 (1 ∷ 4 ∷ 2 ∷ [])) (divisor k11 (1 ∷ 3 ∷ [])) zero_class
    ∷ double E P (divisor k21 (1 ∷ 0 ∷ 0 ∷ 0 ∷ []))
    ∷ multiple E P 2 (divisor k21 (1 ∷ 0 ∷ 0 ∷ 0 ∷ []))
    ∷ multiple E P 3 (divisor k22 (0 ∷ 1 ∷ 4 ∷ []))
    ∷ multiple E P 4 zero_class
    ∷ negative E P (divisor k22 (0 ∷ 1 ∷ 4 ∷ []))
    ∷ sum E one_two (divisor k22 (0 ∷ 1 ∷ 4 ∷ [])) (divisor k31 (0 ∷ 4 ∷ 0 ∷ 0 ∷ 3 ∷ 0 ∷ 1 ∷ 2 ∷ 4 ∷ []))
    ∷ divisor_refused E (divisor k11 (0 ∷ 0 ∷ [])) 9
    ∷ divisor_refused E (divisor k21 (3 ∷ 0 ∷ 0 ∷ 0 ∷ [])) 9
    ∷ divisor_refused E (divisor k11 (5 ∷ 3 ∷ [])) 8
    ∷ divisor_refused E (divisor k11 (4 ∷ 5 ∷ [])) 8
    ∷ divisor_refused E (divisor k11 (5 ∷ 1 ∷ [])) 8
    ∷ divisor_accepted E one_two
    ∷ divisor_refused E (divisor k11 (4 ∷ 4 ∷ [])) 9
    ∷ curve_refused (curve 2 1 0 0) 5
    ∷ curve_refused (curve 3 1 0 0) 5
    ∷ curve_accepted D
    ∷ point D 0 0 (divisor k11 (0 ∷ 0 ∷ []))
    ∷ double D (divisor k11 (0 ∷ 0 ∷ [])) (divisor k22 (0 ∷ 0 ∷ 0 ∷ []))
    ∷ multiple D (divisor k11 (0 ∷ 0 ∷ [])) 2 (divisor k22 (0 ∷ 0 ∷ 0 ∷ []))
    ∷ multiple D (divisor k11 (0 ∷ 0 ∷ [])) 3 zero_class
    ∷ []

-- Document 01, "Traps of this arithmetic": "Looking for singular points, or checking a basis, only at points whose coordinates lie in the
-- field." For p = 2 the curve y³ + x⁴ + x² + 1 is singular where y = 0 and x² + x + 1 = 0, which is at no such point. On E the records
-- 21: 4 0 2 0 and 21: 0 0 2 0 have no such point, since x² + 2 has no root modulo 5. The first is no basis: where y = 1 and x² = −2,
-- y³ + x⁴ + 1 is 1. The second is a basis.
abbrev pub traps : List Row
traps =
    curve_refused (curve 2 1 0 1) 5
    ∷ divisor_refused E (divisor k21 (4 ∷ 0 ∷ 2 ∷ 0 ∷ [])) 9
    ∷ divisor_accepted E (divisor k21 (0 ∷ 0 ∷ 2 ∷ 0 ∷ []))
    ∷ []
