-- What `written` ensures.
--   Wrote C r out n out'   a divisor is written at the start of a buffer that has room; a short buffer and a refusal leave it as it was. A
--                          refusal e returns minus a number k to which it converts, C e k
use Rattle.std.specs.Prelude.{◌≡◌, List, ℕ, ◌<◌, ◌≤◌, length, ℤ, Result, Ok, Err}
use Rattle.basis.specs.declared.Divisor.{Divisor}
use Rattle.reader.specs.Reading.{GivenOn}
use Rattle.calls.specs.Answer.{minus, Gives}
use Rattle.calls.specs.Call.{room}

abbrev pub Wrote : {E : Type 0} → (E → ℕ → Type 0) → Result Divisor E → (out : List ℕ) → ℤ → (out' : List ℕ) → Type 0
Wrote C (Ok x) out n out' =
    (length out < room → (n ≡ minus 10) × (out' ≡ out)) × (room ≤ length out → (c w : List ℕ) → GivenOn c w x → Gives w out n out')
Wrote C (Err e) out n out' = ((k : ℕ) × C e k × (n ≡ minus k)) × (out' ≡ out)
