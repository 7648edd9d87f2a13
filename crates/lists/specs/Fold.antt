-- What is made of the records of a list, one after another. Post a x b says that a step makes b of a and the divisor by value x.
--   StepTo Post c a w b    a step makes b of a and the divisor of the record w
--   Folded Post c start rs a       a is made of `start` by a step for each of the records rs, from first to last
--   StepAsked Post c s start a x   a step at a and x: the list s, which is not too long, starts with records of which a is made, and x is the next
--   FoldFound Post c s start r     fold_records: the list s is passed, and r is made of its records; or r is the first cause
use Rattle.std.specs.Prelude.{◌≡◌, List, ◌++◌, ℕ, ◌≤◌, length, Result, Ok, Err}
use Rattle.std.specs.List.{FoldsTo}
use Rattle.basis.specs.declared.Divisor.{Divisor}
use Rattle.refusal.specs.Refusal.{number_of}
use Rattle.refusal.specs.declared.Refusal.{Refusal}
use Rattle.record.specs.Cause.{FirstCause, Passes}
use Rattle.record.specs.Curve.{modulus, equation}
use Rattle.record.specs.Listed.{joined, Listed, list_limit}
use Rattle.reader.specs.Reading.{GivenOn}
use Rattle.calls.specs.Call.{list_of}

module _ {A : Type 0} (Post : A → Divisor → A → Type 0) (c : List ℕ) where
  abbrev pub StepTo : A → List ℕ → A → Type 0
  StepTo a w b = (x : Divisor) × GivenOn c w x × Post a x b

  abbrev pub Folded : A → List (List ℕ) → A → Type 0
  Folded = FoldsTo StepTo

  pub record StepAsked (s : List ℕ) (start a : A) (x : Divisor) : Type 0 where
    pub before : List (List ℕ)
    pub next : List ℕ
    pub left : List ℕ
    pub short : length s ≤ list_limit
    pub split : s ≡ joined before ++ (next ++ left)
    pub made : Folded start before a
    pub given : GivenOn c next x

  abbrev pub FoldFound : (s : List ℕ) → A → Result A Refusal → Type 0
  FoldFound s start (Ok a) = Passes (list_of c s) × ((rs : List (List ℕ)) × Listed (modulus c) (equation c) s rs × Folded start rs a)
  FoldFound s start (Err e) = FirstCause (list_of c s) (number_of e)
