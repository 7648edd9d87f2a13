-- What is printed for what was read of standard input. The quoted sentence is of document 01, "The counting program".
--   enough                     the least length of a buffer for standard input that decides what is printed
--   ReadFrom input read n      the first n bytes of the buffer `read` are what was read of the input
--   ReportsRead read n text    the text is what is printed for every input of which that was read
use Rattle.std.specs.Prelude.{◌≡◌, List, ℕ, suc, ◌+◌, min, length, take}
use Rattle.record.specs.Curve.{curve_size}
use Rattle.record.specs.Listed.{list_limit}
use Rattle.report.specs.Report.{Report}

-- "It reads standard input: the first 44 bytes (or all, if fewer) are the curve, the rest a list." A buffer of this length has room for a
-- curve and for one byte more than the longest list. Of a list that is too long no byte counts: it is refused with 11 if the curve is accepted.
abbrev pub enough : ℕ
enough = curve_size + suc list_limit

-- What is left by reading until the input ends or the buffer is full: n bytes were read, all of the input or as many as the buffer holds, and
-- the buffer begins with them.
pub record ReadFrom (input read : List ℕ) (n : ℕ) : Type 0 where
  pub many : n ≡ min (length input) (length read)
  pub same : take n read ≡ take n input

abbrev pub ReportsRead : (read : List ℕ) → ℕ → (text : List ℕ) → Type 0
ReportsRead read n text = (input : List ℕ) → ReadFrom input read n → Report input text
