-- What a call returns and leaves, for every input. Document 01: "a refusal arrives there as the negative of its number"; "On success a call
-- that writes returns the length written".
--   minus n                    the number that a refusal n returns
--   Gives w out r out'         a call that writes w returns its length; the buffer has w at its start and is the same after it
--   buffer least out           the stage of the result buffer, which has the least length least
--   Writes least ss Good out r out'    a call that writes, with the stages ss, and then that of the result buffer out: refused, it returns
--                              minus the number of the first cause and leaves the buffer; else it returns the length of a record for which
--                              Good holds, and the buffer has this record at its start and is the same after it
--   Returns ss Good r          a call that writes nothing: refused, or it returns a number for which Good holds
use Rattle.std.specs.Prelude.{◌≡◌, List, [], ◌∷◌, ◌++◌, ℕ, zero, suc, ◌≤◌, length, drop, ℤ, pos, negsuc}
use Rattle.record.specs.Cause.{Stage, must, FirstCause, Passes}

abbrev pub minus : ℕ → ℤ
minus zero = pos 0
minus (suc n) = negsuc n

abbrev pub Gives : (w out : List ℕ) → ℤ → List ℕ → Type 0
Gives w out r out' = (r ≡ pos (length w)) × (out' ≡ w ++ drop (length w) out)

-- "result buffer under 40 bytes", "last 10"; document 02: "The result buffer needs 44 bytes; demand 1 and the table of refusals take in this size"
abbrev pub buffer : ℕ → List ℕ → List Stage
buffer least out = must 10 (least ≤ length out) ∷ []

pub data Writes (least : ℕ) (ss : List Stage) (Good : List ℕ → Type 0) (out : List ℕ) (r : ℤ) (out' : List ℕ) : Type 0 where
  refused : (n : ℕ) → FirstCause (ss ++ buffer least out) n → r ≡ minus n → out' ≡ out → Writes least ss Good out r out'
  written : (w : List ℕ) → Passes (ss ++ buffer least out) → Good w → r ≡ pos (length w) → out' ≡ w ++ drop (length w) out
      → Writes least ss Good out r out'

pub data Returns (ss : List Stage) (Good : ℤ → Type 0) (r : ℤ) : Type 0 where
  refused : (n : ℕ) → FirstCause ss n → r ≡ minus n → Returns ss Good r
  answered : Passes ss → Good r → Returns ss Good r
