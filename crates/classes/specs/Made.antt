-- What is made of divisors in bytes by value. Post says what the function that makes it ensures.
--   one_stages c a, two_stages c a b     what is checked: the curve, and then the divisors
--   OneOn c a Post t       t is made of the divisor a on the accepted curve c, by value
--   OneMade c a Post r     of_one: r is that, or the first cause
--   TwoOn c a b Post t, TwoMade c a b Post r     of_two: the same for two divisors
use Rattle.std.specs.Prelude.{List, ◌++◌, ℕ, Result, Ok, Err}
use Rattle.ground.specs.declared.Ground.{Ground}
use Rattle.basis.specs.declared.Divisor.{Divisor}
use Rattle.refusal.specs.Refusal.{number_of}
use Rattle.refusal.specs.declared.Refusal.{Refusal}
use Rattle.record.specs.Cause.{Stage, FirstCause}
use Rattle.record.specs.Curve.{curve_stages}
use Rattle.reader.specs.Reading.{On, GivenOn}
use Rattle.calls.specs.Call.{divisor_of}

abbrev pub one_stages : (c a : List ℕ) → List Stage
one_stages c a = curve_stages c ++ divisor_of c a

abbrev pub two_stages : (c a b : List ℕ) → List Stage
two_stages c a b = curve_stages c ++ divisor_of c a ++ divisor_of c b

pub record OneOn {T : Type 0} (c a : List ℕ) (Post : Ground → Divisor → T → Type 0) (t : T) : Type 0 where
  pub ground : Ground
  pub value : Divisor
  pub on : On c ground
  pub given : GivenOn c a value
  pub made : Post ground value t

abbrev pub OneMade : {T : Type 0} (c a : List ℕ) (Post : Ground → Divisor → T → Type 0) → Result T Refusal → Type 0
OneMade c a Post (Ok t) = OneOn c a Post t
OneMade c a Post (Err e) = FirstCause (one_stages c a) (number_of e)

pub record TwoOn {T : Type 0} (c a b : List ℕ) (Post : Ground → Divisor → Divisor → T → Type 0) (t : T) : Type 0 where
  pub ground : Ground
  pub first : Divisor
  pub second : Divisor
  pub on : On c ground
  pub given : GivenOn c a first
  pub given_second : GivenOn c b second
  pub made : Post ground first second t

abbrev pub TwoMade : {T : Type 0} (c a b : List ℕ) (Post : Ground → Divisor → Divisor → T → Type 0) → Result T Refusal → Type 0
TwoMade c a b Post (Ok t) = TwoOn c a b Post t
TwoMade c a b Post (Err e) = FirstCause (two_stages c a b) (number_of e)
