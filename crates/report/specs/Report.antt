-- Document 01, "The counting program", with document 02, 2026-05 and 2026-07: what it prints, in bytes, for each input.
--   curve_part, list_part    "the first 44 bytes (or all, if fewer) are the curve, the rest a list"
--   typical r, typicals rs   whether a record is typical; how many of the records are
--   upward q r b             whether q + r / b is rounded upward, to q + 1
--   rounded a b              a / b as a whole number, a half rounded to the even one
--   per_cent h               h hundredths with two decimals
--   share_line t n           the line of the share, for t typical records among n
--   count_line name n        a line with a name and a number
--   count_lines              the lines of the five kinds, by their counts
--   spaced ns                each number behind a space
--   sum_line w               the line of the sum, whose record is w
--   lines rs w               all that is printed for the records rs with the sum w
--   refused_line n           all that is printed for the refusal n
--   ReportOn c s text        the text is what is printed for the curve c and the list s
--   Report input text        … for the input
use Rattle.std.specs.Prelude.{◌≡◌, List, [], ◌∷◌, ◌++◌, Bool, not, ◌&&◌, ◌||◌, ℕ, zero, suc, ◌+◌, ◌*◌, ◌-◌, ◌/◌, ◌%◌, length, take, drop, eqb, ltb}
use Rattle.text.specs.Ascii.{ascii}
use Rattle.text.specs.Decimal.{decimal, two_digits}
use Rattle.layout.specs.Layout.{number2, number4, numbers}
use Rattle.record.specs.Cause.{FirstCause, Passes}
use Rattle.record.specs.Curve.{modulus, equation, curve_stages, curve_size}
use Rattle.record.specs.Listed.{Listed}
use Rattle.calls.specs.Class.{IsListSum}
use Rattle.calls.specs.Call.{list_of, one_if, tally}

abbrev pub curve_part : List ℕ → List ℕ
curve_part input = take curve_size input

abbrev pub list_part : List ℕ → List ℕ
list_part input = drop curve_size input

-- Document 02, 2026-07: "a kind 31 record is typical exactly where f2, the coefficient of y, isn't zero". f2 is the record's third number.
abbrev pub typical : List ℕ → Bool
typical r = eqb (number2 r 2) 31 && not (eqb (number4 r (4 + 4 * 2)) 0)

abbrev pub typicals : List (List ℕ) → ℕ
typicals [] = 0
typicals (r ∷ rs) = one_if (typical r) + typicals rs

-- Document 02, 2026-05: "round a half in the last place to the even digit". With the quotient q and the rest r by b: upward if 2·r is
-- above b, or if it is b and q is odd.
abbrev pub upward : (q r b : ℕ) → Bool
upward q r b = ltb b (2 * r) || (eqb (2 * r) b && eqb (q % 2) 1)

abbrev pub rounded : ℕ → ℕ → ℕ
rounded a b = a / b + one_if (upward (a / b) (a % b) b)

unfoldable pub per_cent : ℕ → List ℕ
per_cent h = decimal (h / 100) ++ ascii "." ++ two_digits (h % 100)

-- "The share is the typical records in per cent of all records, two decimals, …; an empty list prints `share none`."
unfoldable pub share_line : ℕ → ℕ → List ℕ
share_line t zero = ascii "share none\n"
share_line t (suc n) = ascii "share " ++ per_cent (rounded (10000 * t) (suc n)) ++ ascii "\n"

unfoldable pub count_line : List ℕ → ℕ → List ℕ
count_line name n = name ++ decimal n ++ ascii "\n"

-- "a line for each of the kinds 0, 11, 21, 22 and 31 in this order, the kind (0 printed as `zero`) and its count"
unfoldable pub count_lines : (n0 n11 n21 n22 n31 : ℕ) → List ℕ
count_lines n0 n11 n21 n22 n31 =
    count_line (ascii "zero ") n0
    ++ count_line (ascii "11 ") n11
    ++ count_line (ascii "21 ") n21
    ++ count_line (ascii "22 ") n22
    ++ count_line (ascii "31 ") n31

-- each number behind a space
unfoldable pub spaced : List ℕ → List ℕ
spaced [] = []
spaced (n ∷ ns) = ascii " " ++ decimal n ++ spaced ns

-- "`sum` with the kind and the record's numbers (`sum 0` for the zero class)"
unfoldable pub sum_line : List ℕ → List ℕ
sum_line w = ascii "sum " ++ decimal (number2 w 2) ++ spaced (numbers w 4 ((length w - 4) / 4)) ++ ascii "\n"

unfoldable pub lines : List (List ℕ) → List ℕ → List ℕ
lines rs w =
    count_lines (tally 0 rs) (tally 11 rs) (tally 21 rs) (tally 22 rs) (tally 31 rs)
    ++ share_line (typicals rs) (length rs)
    ++ sum_line w

-- "A refusal prints only `refused` and the number."
unfoldable pub refused_line : ℕ → List ℕ
refused_line n = count_line (ascii "refused ") n

-- what is printed for the curve c and the list s
pub data ReportOn (c s text : List ℕ) : Type 0 where
  refused : (n : ℕ) → FirstCause (curve_stages c ++ list_of c s) n → text ≡ refused_line n → ReportOn c s text
  counted : (rs : List (List ℕ)) (w : List ℕ) → Passes (curve_stages c ++ list_of c s) → Listed (modulus c) (equation c) s rs
      → IsListSum c rs w → text ≡ lines rs w → ReportOn c s text

abbrev pub Report : (input text : List ℕ) → Type 0
Report input text = ReportOn (curve_part input) (list_part input) text
