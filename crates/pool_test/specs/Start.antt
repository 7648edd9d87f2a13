-- The records of the test, and the slots of the pool at the start.
--   records                 the points (1, 2), (2, 2), (3, 2), (0, 4) on E, and the zero class
--   slots rs                the records rs at slots of 40 bytes, with zeros behind each of them
--   start                   … for the records of the test
use Rattle.std.specs.Prelude.{List, [], ◌∷◌, ◌++◌, ℕ, ◌-◌, length, replicate}
use Rattle.divisor.specs.Kind.{k11}
use Rattle.calls.specs.Call.{room}
use Rattle.worked.specs.Table.{divisor, one_two, P, zero_class}

abbrev pub records : List (List ℕ)
records = one_two ∷ divisor k11 (3 ∷ 3 ∷ []) ∷ divisor k11 (2 ∷ 3 ∷ []) ∷ P ∷ zero_class ∷ []

abbrev pub slots : List (List ℕ) → List ℕ
slots [] = []
slots (r ∷ rs) = r ++ replicate (room - length r) 0 ++ slots rs

unfoldable pub start : List ℕ
start = slots records
