-- The calls. c is the curve's bytes, a and b a divisor's, s a list's or those of fractions, out the result buffer's. Document 01's order of
-- causes: the curve; then 11; then each divisor from first to last; last 10.
--   divisor_of c a, list_of c s  the stages of a divisor and of a list
--   room                         the least length of a buffer for a divisor record
--   one_if b, tally kind rs      how many of the records have the kind
--   CheckCurve c r               CheckDivisor c a r
--   Sum c a b out r out'         Double c a out r out'       Negative c a out r out'
--   Multiple c a n out r out'    ListSum c s out r out'
--   Compare c a b r              Count c s kind r
--   ReduceCurve s p out r out'   document 02, 2026-01
--   CompareWords c a b r         document 02, 2026-03
--   CommonPart c a b out r out'  CommonMultiple c a b out r out'     document 02, 2026-04; the sum by the second road is Sum
--   QuickServes c a b r          document 02, 2026-08; the quick sum is Sum, and the quick double is Double
use Rattle.std.specs.Prelude.{◌≡◌, ◌⊎◌, List, [], ◌∷◌, ◌++◌, Bool, true, false, ℕ, ◌+◌, ◌≤◌, length, ℤ, pos, eqb}
use Rattle.layout.specs.Layout.{number2}
use Rattle.words.specs.Words.{words, compared}
use Rattle.record.specs.Cause.{Stage, must}
use Rattle.record.specs.Curve.{curve_size, modulus, equation, curve_stages}
use Rattle.record.specs.Divisor.{divisor_stages}
use Rattle.record.specs.Fractions.{AcceptedReduced, fractions_stages}
use Rattle.record.specs.Listed.{Listed, list_stage, list_limit}
use Rattle.calls.specs.Answer.{Writes, Returns}
use Rattle.calls.specs.Class.{IsSum, IsNegative, IsMultiple, IsListSum, IsCommonPart, IsCommonMultiple}
use Rattle.calls.specs.Quick.{Serves}

-- the divisor a on the curve c
abbrev pub divisor_of : (c a : List ℕ) → List Stage
divisor_of c a = divisor_stages (modulus c) (equation c) a

-- the list s on the curve c
abbrev pub list_of : (c s : List ℕ) → List Stage
list_of c s = must 11 (length s ≤ list_limit) ∷ list_stage (modulus c) (equation c) s ∷ []

-- the least length of a result buffer for a divisor record
abbrev pub room : ℕ
room = 40

abbrev pub CheckCurve : List ℕ → ℤ → Type 0
CheckCurve c = Returns (curve_stages c) (λ r. r ≡ pos 1)

abbrev pub CheckDivisor : (c a : List ℕ) → ℤ → Type 0
CheckDivisor c a = Returns (curve_stages c ++ divisor_of c a) (λ r. r ≡ pos 1)

abbrev pub Sum : (c a b out : List ℕ) → ℤ → List ℕ → Type 0
Sum c a b out = Writes room (curve_stages c ++ divisor_of c a ++ divisor_of c b) (IsSum c a b) out

abbrev pub Double : (c a out : List ℕ) → ℤ → List ℕ → Type 0
Double c a out = Writes room (curve_stages c ++ divisor_of c a) (IsSum c a a) out

abbrev pub Negative : (c a out : List ℕ) → ℤ → List ℕ → Type 0
Negative c a out = Writes room (curve_stages c ++ divisor_of c a) (IsNegative c a) out

abbrev pub Multiple : (c a : List ℕ) → ℤ → List ℕ → ℤ → List ℕ → Type 0
Multiple c a n out = Writes room (curve_stages c ++ divisor_of c a) (IsMultiple c a n) out

abbrev pub ListSum : (c s out : List ℕ) → ℤ → List ℕ → Type 0
ListSum c s out =
    Writes room (curve_stages c ++ list_of c s)
    (λ w. (rs : List (List ℕ)) × Listed (modulus c) (equation c) s rs × IsListSum c rs w)
    out

-- "The comparison says yes if two accepted records have the same bytes, else no": 1 for yes, 0 for no.
abbrev pub Compare : (c a b : List ℕ) → ℤ → Type 0
Compare c a b =
    Returns (curve_stages c ++ divisor_of c a ++ divisor_of c b)
    (λ r. ((a ≡ b) × (r ≡ pos 1)) ⊎ ((¬ (a ≡ b)) × (r ≡ pos 0)))

abbrev pub one_if : Bool → ℕ
one_if true = 1
one_if false = 0

-- how many of the records have the kind
abbrev pub tally : ℕ → List (List ℕ) → ℕ
tally kind [] = 0
tally kind (w ∷ ws) = one_if (eqb (number2 w 2) kind) + tally kind ws

abbrev pub Count : (c s : List ℕ) → ℕ → ℤ → Type 0
Count c s kind =
    Returns (curve_stages c ++ list_of c s)
    (λ r. (rs : List (List ℕ)) × Listed (modulus c) (equation c) s rs × (r ≡ pos (tally kind rs)))

-- "The result buffer needs 44 bytes", the length of the curve record.
abbrev pub ReduceCurve : (s : List ℕ) (p : ℕ) (out : List ℕ) → ℤ → List ℕ → Type 0
ReduceCurve s p out = Writes curve_size (fractions_stages s p) (AcceptedReduced s p) out

-- "A second call with the same inputs and refusals returns how many pairs of words are compared".
abbrev pub CompareWords : (c a b : List ℕ) → ℤ → Type 0
CompareWords c a b =
    Returns (curve_stages c ++ divisor_of c a ++ divisor_of c b) (λ r. r ≡ pos (compared (words a) (words b)))

-- Document 02, 2026-04: the common part and the common multiple, with the inputs and refusals of the sum.
abbrev pub CommonPart : (c a b out : List ℕ) → ℤ → List ℕ → Type 0
CommonPart c a b out = Writes room (curve_stages c ++ divisor_of c a ++ divisor_of c b) (IsCommonPart c a b) out

abbrev pub CommonMultiple : (c a b out : List ℕ) → ℤ → List ℕ → Type 0
CommonMultiple c a b out = Writes room (curve_stages c ++ divisor_of c a ++ divisor_of c b) (IsCommonMultiple c a b) out

-- Document 02, 2026-08: "A second call on the same curve and records writes nothing and returns 1 where the formulas serve, 0 where the first falls back."
abbrev pub QuickServes : (c a b : List ℕ) → ℤ → Type 0
QuickServes c a b =
    Returns (curve_stages c ++ divisor_of c a ++ divisor_of c b)
    (λ r. (Serves c a b × (r ≡ pos 1)) ⊎ ((¬ Serves c a b) × (r ≡ pos 0)))
