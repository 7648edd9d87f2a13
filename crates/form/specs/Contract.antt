-- What the functions on the form of records ensure.
--   Checked ss r           r is Ok if every stage of ss is passed, else the first cause
--   FormRead s r           r is the kind of a divisor record in bytes whose form is accepted, else the first cause
use Rattle.std.specs.Prelude.{List, ℕ, Result, Ok, Err}
use Rattle.refusal.specs.Refusal.{number_of}
use Rattle.refusal.specs.declared.Refusal.{Refusal}
use Rattle.kind.specs.declared.Kind.{Kind}
use Rattle.record.specs.Cause.{Stage, FirstCause, Passes}
use Rattle.record.specs.Divisor.{OfKind, divisor_form}

abbrev pub Checked : List Stage → Result Unit Refusal → Type 0
Checked ss (Ok u) = Passes ss
Checked ss (Err e) = FirstCause ss (number_of e)

abbrev pub FormRead : List ℕ → Result Kind Refusal → Type 0
FormRead s (Ok κ) = Passes (divisor_form s) × OfKind s κ
FormRead s (Err e) = FirstCause (divisor_form s) (number_of e)
