-- What the functions of the pass over a list require and ensure.
--   WithAsked g p x, WithNext g p x q    with: the divisor by value x may be added to the sum, and its record to the tallies; q has them
--   Totals x t c rs          x is the list sum of the records rs by value, and t holds their tallies
--   PassFound c ss s r       pass_on: the stages ss are passed, and r is the sum and the tallies of the records of the list s; or r is the first cause
use Rattle.std.specs.Prelude.{List, ℕ, ◌<◌, Result, Ok, Err}
use Rattle.refusal.specs.Refusal.{number_of}
use Rattle.refusal.specs.declared.Refusal.{Refusal}
use Rattle.ground.specs.declared.Ground.{Ground}
use Rattle.basis.specs.declared.Divisor.{Divisor}
use Rattle.group.specs.Contract.{SumAsked, SumOf}
use Rattle.record.specs.Cause.{Stage, FirstCause, Passes}
use Rattle.record.specs.Curve.{modulus, equation}
use Rattle.record.specs.Listed.{Listed}
use Rattle.reader.specs.Reading.{GivenOn}
use Rattle.calls.specs.Class.{IsListSum}
use Rattle.tallies.specs.declared.Tallies.{Tallies}
use Rattle.tallies.specs.Tallied.{TalliesOf, Bounded, AddedTo}
use Rattle.pass.specs.declared.Pass.{Pass}

pub record WithAsked (g : Ground) (p : Pass) (x : Divisor) : Type 0 where
  pub sum : SumAsked g p.sum x
  pub bounded : Bounded p.tallies
  pub few : p.tallies.total < 4294967295

pub record WithNext (g : Ground) (p : Pass) (x : Divisor) (q : Pass) : Type 0 where
  pub sum : SumOf g p.sum x q.sum
  pub tallies : AddedTo p.tallies x q.tallies

pub record Totals (x : Divisor) (t : Tallies) (c : List ℕ) (rs : List (List ℕ)) : Type 0 where
  pub sum : (w : List ℕ) × IsListSum c rs w × GivenOn c w x
  pub tallies : TalliesOf rs t

abbrev pub PassFound : (c : List ℕ) → List Stage → (s : List ℕ) → Result Pass Refusal → Type 0
PassFound c ss s (Ok p) = Passes ss × ((rs : List (List ℕ)) × Listed (modulus c) (equation c) s rs × Totals p.sum p.tallies c rs)
PassFound c ss s (Err e) = FirstCause ss (number_of e)
