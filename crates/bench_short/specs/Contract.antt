-- What bench_shorten gives.
--   Fit p a out x          the buffer has 40 bytes or more, a has the form of a record, and x its kind and numbers, which are below p
--   Shortens p a out r out'    the short record of such an x is written, and r is its length; or there is none, r is 0, and the buffer is left
use Rattle.std.specs.Prelude.{◌≡◌, ◌⊎◌, List, ℕ, ◌≤◌, length}
use Rattle.basis.specs.Divisor.{numbers_of}
use Rattle.basis.specs.declared.Divisor.{Divisor}
use Rattle.record.specs.Cause.{Passes}
use Rattle.record.specs.Divisor.{OfKind, divisor_form}
use Rattle.checks.specs.Contract.{AllBelow, ValueOf}
use Rattle.calls.specs.Call.{room}
use Rattle.short_writer.specs.Contract.{ShortWriteAnswer}

pub record Fit (p : ℕ) (a out : List ℕ) (x : Divisor) : Type 0 where
  pub enough : room ≤ length out
  pub form : Passes (divisor_form a)
  pub kind : OfKind a x.kind
  pub value : ValueOf x.kind a x
  pub below : AllBelow p (numbers_of x)

abbrev pub Shortens : (p : ℕ) (a out : List ℕ) → ℕ → List ℕ → Type 0
Shortens p a out r out' =
    ((x : Divisor) × Fit p a out x × ShortWriteAnswer p x out out' r) ⊎ (((x : Divisor) → ¬ Fit p a out x) × (r ≡ 0) × (out' ≡ out))
