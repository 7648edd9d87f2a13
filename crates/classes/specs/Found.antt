-- What the functions on the ground of a curve require and ensure.
--   Curved g               g is the ground of some accepted curve
--   OnCurves g X           X holds of the bytes c of every accepted curve with the ground g
--   Found c ss Good r      the stages ss are passed, and r is a divisor by value whose record is good; or r is their first cause
--   MultipleMade c x n r   multiple_of: the record of r is the multiple by n of the record of x
use Rattle.std.specs.Prelude.{List, ℕ, ℤ, Result, Ok, Err}
use Rattle.ground.specs.declared.Ground.{Ground}
use Rattle.basis.specs.declared.Divisor.{Divisor}
use Rattle.record.specs.Cause.{Stage, FirstCause, Passes}
use Rattle.reader.specs.Reading.{On, GivenOn}
use Rattle.refusal.specs.Refusal.{number_of}
use Rattle.refusal.specs.declared.Refusal.{Refusal}
use Rattle.calls.specs.Class.{IsMultiple}

abbrev pub Curved : Ground → Type 0
Curved g = (c : List ℕ) × On c g

abbrev pub OnCurves : Ground → (List ℕ → Type 0) → Type 0
OnCurves g X = (c : List ℕ) → On c g → X c

abbrev pub Found : (c : List ℕ) → List Stage → (List ℕ → Type 0) → Result Divisor Refusal → Type 0
Found c ss Good (Ok x) = Passes ss × ((w : List ℕ) × Good w × GivenOn c w x)
Found c ss Good (Err e) = FirstCause ss (number_of e)

abbrev pub MultipleMade : (c : List ℕ) (x : Divisor) (n : ℤ) (r : Divisor) → Type 0
MultipleMade c x n r = (a : List ℕ) → GivenOn c a x → (w : List ℕ) × IsMultiple c a n w × GivenOn c w r
