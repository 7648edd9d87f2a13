-- What the functions on lists ensure.
--   SumOfList c s w        w is the list sum of the records of the list s
--   TallyFound c ss s kind r     the stages ss are passed, and r is how many records of the list s have the kind; or r is the first cause
use Rattle.std.specs.Prelude.{◌≡◌, List, ℕ, Result, Ok, Err}
use Rattle.refusal.specs.Refusal.{number_of}
use Rattle.refusal.specs.declared.Refusal.{Refusal}
use Rattle.record.specs.Cause.{Stage, FirstCause, Passes}
use Rattle.record.specs.Curve.{modulus, equation}
use Rattle.record.specs.Listed.{Listed}
use Rattle.calls.specs.Class.{IsListSum}
use Rattle.calls.specs.Call.{tally}

abbrev pub SumOfList : (c s w : List ℕ) → Type 0
SumOfList c s w = (rs : List (List ℕ)) × Listed (modulus c) (equation c) s rs × IsListSum c rs w

abbrev pub TallyFound : (c : List ℕ) → List Stage → (s : List ℕ) → ℕ → Result ℕ Refusal → Type 0
TallyFound c ss s kind (Ok n) = Passes ss × ((rs : List (List ℕ)) × Listed (modulus c) (equation c) s rs × (n ≡ tally kind rs))
TallyFound c ss s kind (Err e) = FirstCause ss (number_of e)
