-- What a call does with what was found or made: the stages of the curve and the divisors come first, that of the buffer last.
--   Numbered e k           the cause e converts to its number k
--   writes_found           a divisor that was found is written, or the call is refused
--   one-writes, two-writes a divisor that was made of divisors is written, or the call is refused
use mathlib.Core.Path.{◌≡◌, ◌∙◌, ap}
use mathlib.Core.List.{List}
use Prim.Native.Nat.{ℕ, ◌<◌}
use native.Mathlib.Omega.{arith}
use native.Mathlib.Decide.{dec_lt}
use lib.ListN.{length}
use lib.IntN.{ℤ}
use Rattle.std.specs.Prelude.{Result, Ok, Err}
use Rattle.ground.specs.declared.Ground.{Ground}
use Rattle.basis.specs.declared.Divisor.{Divisor}
use Rattle.refusal.specs.Refusal.{number_of}
use Rattle.refusal.specs.declared.Refusal.{Refusal}
use Rattle.record.specs.Cause.{Stage}
use Rattle.reader.specs.Reading.{On, GivenOn}
use Rattle.calls.specs.Answer.{minus, Writes}
use Rattle.calls.specs.Call.{room}
use Rattle.calls.proofs.Answers.{writes_refused, writes_short, writes_enough}
use Rattle.classes.specs.Found.{Found}
use Rattle.classes.specs.Made.{one_stages, two_stages, OneMade, TwoMade}
use Rattle.classes.proofs.Made.{Made, one-found, two-found}
use Rattle.reply.specs.Written.{Wrote}

abbrev pub Numbered : Refusal → ℕ → Type 0
Numbered e k = k ≡ number_of e

module _ (c : List ℕ) (ss : List Stage) (Good : List ℕ → Type 0) where
  pub writes_found : {out out' : List ℕ} {n : ℤ} (r : Result Divisor Refusal) → Found c ss Good r → Wrote Numbered r out n out' → Writes room ss Good out n out'
  writes_found {out} {out'} {n} (Ok x) f h = go (dec_lt (length out) room)
    where
      go : Dec (length out < room) → Writes room ss Good out n out'
      go (yes l) =
          let z = h.0 l in
          writes_short ss f.0 l z.0 z.1
      go (no l) =
          let z = h.1 (omega arith) c f.1.0 f.1.2 in
          writes_enough ss f.0 f.1.0 (omega arith) f.1.1 z.0 z.1
  writes_found (Err e) f h = writes_refused ss (number_of e) f (h.0.2 ∙ ap minus h.0.1) h.1

-- a divisor by value that was made of divisors in bytes; `each` says that what was made has a good record
module _ {c a : List ℕ} {Post : Ground → Divisor → Divisor → Type 0} (Good : List ℕ → Type 0)
    (each : (g : Ground) (x r : Divisor) → On c g → GivenOn c a x → Post g x r → Made c Good r) where
  pub one-writes : {out out' : List ℕ} {n : ℤ} (r : Result Divisor Refusal) → OneMade c a Post r → Wrote Numbered r out n out'
      → Writes room (one_stages c a) Good out n out'
  one-writes r m h = writes_found c (one_stages c a) Good r (one-found Good each r m) h

module _ {c a b : List ℕ} {Post : Ground → Divisor → Divisor → Divisor → Type 0} (Good : List ℕ → Type 0)
    (each : (g : Ground) (x y r : Divisor) → On c g → GivenOn c a x → GivenOn c b y → Post g x y r → Made c Good r) where
  pub two-writes : {out out' : List ℕ} {n : ℤ} (r : Result Divisor Refusal) → TwoMade c a b Post r → Wrote Numbered r out n out'
      → Writes room (two_stages c a b) Good out n out'
  two-writes r m h = writes_found c (two_stages c a b) Good r (two-found Good each r m) h
