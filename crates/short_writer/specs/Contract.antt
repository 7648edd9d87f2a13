-- What the function that writes short records requires and ensures.
--   ShortWriteAsked p x out            x has numbers below p, and the buffer has 40 bytes or more
--   short_of_value p κ x               the short record that stands for the divisor by value x of the kind κ
--   ShortWritten p x out out' n κ      it stands at the start of the buffer, the rest is as it was, and n is its length
--   ShortWriteAnswer p x out out' n    … for the kind κ of x
use Rattle.std.specs.Prelude.{◌≡◌, List, ◌++◌, ℕ, ◌≤◌, length, take, drop}
use Rattle.divisor.specs.Kind.{Kind, count}
use Rattle.basis.specs.Divisor.{numbers_of, Shaped}
use Rattle.basis.specs.declared.Divisor.{Divisor}
use Rattle.calls.specs.Call.{room}
use Rattle.short.specs.Short.{short_size, short_bytes}

pub record ShortWriteAsked (p : ℕ) (x : Divisor) (out : List ℕ) : Type 0 where
  pub shaped : Shaped p x.kind x
  pub enough : room ≤ length out

abbrev pub short_of_value : ℕ → Kind → Divisor → List ℕ
short_of_value p κ x = short_bytes p κ (take (count κ) (numbers_of x))

pub record ShortWritten (p : ℕ) (x : Divisor) (out out' : List ℕ) (n : ℕ) (κ : Kind) : Type 0 where
  pub long : n ≡ short_size p κ
  pub bytes : out' ≡ short_of_value p κ x ++ drop (short_size p κ) out

abbrev pub ShortWriteAnswer : (p : ℕ) → Divisor → (out out' : List ℕ) → ℕ → Type 0
ShortWriteAnswer p x out out' n = ShortWritten p x out out' n x.kind
