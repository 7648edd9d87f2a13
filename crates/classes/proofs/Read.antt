-- What the readers found, on the curve of the bytes c.
--   read_given, read_refused   one divisor: accepted, or the first cause
--   pair-given, pair-refused   two divisors
use mathlib.Core.List.{List, ◌++◌}
use Prim.Native.Nat.{ℕ}
use Rattle.std.specs.Prelude.{Ok, Err}
use Rattle.ground.specs.declared.Ground.{Ground}
use Rattle.ground.specs.Ground.{AtGround}
use Rattle.basis.specs.declared.Divisor.{Divisor}
use Rattle.refusal.specs.Refusal.{number_of}
use Rattle.refusal.specs.declared.Refusal.{Refusal}
use Rattle.record.specs.Cause.{FirstCause}
use Rattle.reader.specs.Reading.{On, GivenOn, DivisorRead, TwoRead}
use Rattle.reader.proofs.Ground.{at-curve}
use Rattle.calls.specs.Call.{divisor_of}

module _ {c : List ℕ} {g : Ground} (o : On c g) (a : List ℕ) where
  pub read_given : (x : Divisor) → AtGround g (λ p C. DivisorRead p C a (Ok x)) → GivenOn c a x
  read_given x h = at-curve o (λ p C. DivisorRead p C a (Ok x)) h

  pub read_refused : (e : Refusal) → AtGround g (λ p C. DivisorRead p C a (Err e)) → FirstCause (divisor_of c a) (number_of e)
  read_refused e h = at-curve o (λ p C. DivisorRead p C a (Err e)) h

  module _ (b : List ℕ) where
    pub pair-given : (x y : Divisor) → AtGround g (λ p C. TwoRead p C a b (Ok (x, y))) → GivenOn c a x × GivenOn c b y
    pair-given x y h = at-curve o (λ p C. TwoRead p C a b (Ok (x, y))) h

    pub pair-refused : (e : Refusal) → AtGround g (λ p C. TwoRead p C a b (Err e)) → FirstCause (divisor_of c a ++ divisor_of c b) (number_of e)
    pair-refused e h = at-curve o (λ p C. TwoRead p C a b (Err e)) h
