-- The causes of refusal.
--   number_of r            the number of the cause r
--   words_of r             what is printed of it
use Rattle.std.specs.Prelude.{ℕ, List, codes}
use Rattle.refusal.specs.declared.Refusal.{Refusal}
use Rattle.refusal.specs.declared.Refusal.TheVariants as refusal

abbrev pub number_of : Refusal → ℕ
number_of refusal.CurveSize = 1
number_of refusal.CurveKind = 2
number_of refusal.Modulus = 3
number_of refusal.Coefficient = 4
number_of refusal.Singular = 5
number_of refusal.DivisorSize = 6
number_of refusal.DivisorKind = 7
number_of refusal.Number = 8
number_of refusal.NoBasis = 9
number_of refusal.Room = 10
number_of refusal.ListSize = 11
number_of refusal.Fractions = 12
number_of refusal.Denominator = 13
number_of refusal.Points = 14
number_of refusal.Filling = 15

abbrev pub words_of : Refusal → List ℕ
words_of refusal.CurveSize = codes "curve bytes under 4, length field unlike the bytes given, or kind 34 with length not 44"
words_of refusal.CurveKind = codes "curve kind not 34"
words_of refusal.Modulus = codes "p not a prime from 2 to 2147483647"
words_of refusal.Coefficient = codes "some c not below p"
words_of refusal.Singular = codes "curve singular"
words_of refusal.DivisorSize = codes "divisor bytes under 4, length field unlike the bytes given, or length not that of its kind"
words_of refusal.DivisorKind = codes "no kind of divisor"
words_of refusal.Number = codes "divisor number or coordinate not below p"
words_of refusal.NoBasis = codes "divisor not a basis, or pair off the curve"
words_of refusal.Room = codes "result buffer too short"
words_of refusal.ListSize = codes "list over 32,768 bytes"
words_of refusal.Fractions = codes "fractions of the wrong length or kind"
words_of refusal.Denominator = codes "a denominator divisible by p, zero included"
words_of refusal.Points = codes "p above 65521, an odd count of numbers, or more than 4,096 pairs"
words_of refusal.Filling = codes "a filling bit is not zero"
