-- The tallies of a list of records by value: how many have each kind, how many are typical, how many there are.
--   TalliesOf rs t       t holds the tallies of the records rs
--   Bounded t            each tally is at most that of all records
--   HasRecord x r        r is the record of the divisor by value x, whose numbers are below 2³²
--   TypicalTest x b      typical: is the record of x typical
--   AddedTo t x t'       t' counts one record more than t, that of x
--   Added t x t'         add: …; one whose number no kind has counts among all records alone
use Rattle.std.specs.Prelude.{◌≡◌, Bool, List, [], ◌∷◌, ◌++◌, ℕ, ◌+◌, ◌≤◌, length, Result, Ok, Err}
use Rattle.kind.specs.declared.UnknownKind.{UnknownKind}
use Rattle.layout.specs.Layout.{Words}
use Rattle.basis.specs.Divisor.{numbers_of}
use Rattle.basis.specs.declared.Divisor.{Divisor}
use Rattle.record.specs.Value.{bytes_of}
use Rattle.calls.specs.Call.{tally}
use Rattle.report.specs.Report.{typical, typicals}
use Rattle.tallies.specs.declared.Tallies.{Tallies}

pub record TalliesOf (rs : List (List ℕ)) (t : Tallies) : Type 0 where
  pub is_0 : t.n0 ≡ tally 0 rs
  pub is_11 : t.n11 ≡ tally 11 rs
  pub is_21 : t.n21 ≡ tally 21 rs
  pub is_22 : t.n22 ≡ tally 22 rs
  pub is_31 : t.n31 ≡ tally 31 rs
  pub is_typical : t.typical ≡ typicals rs
  pub is_total : t.total ≡ length rs

pub record Bounded (t : Tallies) : Type 0 where
  pub most_0 : t.n0 ≤ t.total
  pub most_11 : t.n11 ≤ t.total
  pub most_21 : t.n21 ≤ t.total
  pub most_22 : t.n22 ≤ t.total
  pub most_31 : t.n31 ≤ t.total
  pub most_typical : t.typical ≤ t.total

pub record HasRecord (x : Divisor) (r : List ℕ) : Type 0 where
  pub words : Words (numbers_of x)
  pub bytes : bytes_of x.kind x ≡ r

abbrev pub TypicalTest : Divisor → Bool → Type 0
TypicalTest x b = (r : List ℕ) → HasRecord x r → b ≡ typical r

abbrev pub AddedTo : (t : Tallies) → Divisor → Tallies → Type 0
AddedTo t x t' = (rs : List (List ℕ)) (r : List ℕ) → TalliesOf rs t → HasRecord x r → TalliesOf (rs ++ r ∷ []) t'

abbrev pub Added : (t : Tallies) → Result Divisor UnknownKind → Tallies → Type 0
Added t (Ok x) t' = AddedTo t x t'
Added t (Err e) t' = t' ≡ record { n0 = t.n0; n11 = t.n11; n21 = t.n21; n22 = t.n22; n31 = t.n31; typical = t.typical; total = t.total + 1 }
