-- What the readers require and ensure, by the cases of their answers.
--   CurveRead s a          read_curve: an accepted curve's equation, or the first cause
--   On c g                 c is an accepted curve, and g its ground
--   DoneOn c Post r        on_curve: r is the first cause for which the curve c is refused; or c is accepted, and r is what the work, which
--                          ensures Post, gives on its ground
--   DivisorGiven p C s r   s is accepted, and r is the divisor by value of which s is the record
--   GivenOn c s r          … on the curve of the bytes c
--   DivisorRead p C s a    read_divisor: an accepted divisor by value, or the first cause
--   TwoRead p C s t a      read_two: two accepted divisors by value, or the first cause
--   NextRead p C s a       read_next: the divisor at the start of s and its length, or the first cause
use Rattle.std.specs.Prelude.{◌≡◌, List, ◌++◌, ℕ, take, Result, Ok, Err}
use Rattle.field.specs.Residue.{Z}
use Rattle.curve.specs.Curve.{Curve}
use Rattle.divisor.specs.Kind.{Kind}
use Rattle.layout.specs.Layout.{number2}
use Rattle.equation.specs.declared.Equation.{Equation}
use Rattle.ground.specs.declared.Ground.{Ground}
use Rattle.ground.specs.Ground.{GroundOf}
use Rattle.basis.specs.Divisor.{BasisValue}
use Rattle.basis.specs.declared.Divisor.{Divisor}
use Rattle.refusal.specs.Refusal.{number_of}
use Rattle.refusal.specs.declared.Refusal.{Refusal}
use Rattle.record.specs.Cause.{FirstCause, Passes}
use Rattle.record.specs.Curve.{modulus, equation, curve_stages, AcceptedCurve}
use Rattle.record.specs.Divisor.{divisor_stages, AcceptedDivisor}
use Rattle.record.specs.Listed.{next_stages}
use Rattle.record.specs.Value.{bytes_of}
use Rattle.checks.specs.Contract.{equation_value}

abbrev pub CurveRead : List ℕ → Result Equation Refusal → Type 0
CurveRead s (Ok e) = AcceptedCurve s × (e ≡ equation_value s)
CurveRead s (Err e) = FirstCause (curve_stages s) (number_of e)

pub record On (c : List ℕ) (g : Ground) : Type 0 where
  pub accepted : AcceptedCurve c
  pub ground : GroundOf (equation_value c) g

pub data DoneOn {T : Type 0} (c : List ℕ) (Post : Ground → Result T Refusal → Type 0) (r : Result T Refusal) : Type 0 where
  refused : (e : Refusal) → FirstCause (curve_stages c) (number_of e) → r ≡ Err e → DoneOn c Post r
  done : (g : Ground) → On c g → Post g r → DoneOn c Post r

module _ (p : ℕ) (C : Curve (Z p)) where
  pub record DivisorGiven (s : List ℕ) (r : Divisor) : Type 0 where
    pub accepted : AcceptedDivisor p C s
    pub kind : Kind
    pub based : BasisValue p C kind r
    pub bytes : bytes_of kind r ≡ s

  abbrev pub DivisorRead : List ℕ → Result Divisor Refusal → Type 0
  DivisorRead s (Ok r) = DivisorGiven s r
  DivisorRead s (Err e) = FirstCause (divisor_stages p C s) (number_of e)

  abbrev pub TwoRead : (s t : List ℕ) → Result (Divisor × Divisor) Refusal → Type 0
  TwoRead s t (Ok (x, y)) = DivisorGiven s x × DivisorGiven t y
  TwoRead s t (Err e) = FirstCause (divisor_stages p C s ++ divisor_stages p C t) (number_of e)

  abbrev pub NextRead : List ℕ → Result (Divisor × ℕ) Refusal → Type 0
  NextRead s (Ok (r, n)) = Passes (next_stages p C s) × (n ≡ number2 s 0) × DivisorGiven (take n s) r
  NextRead s (Err e) = FirstCause (next_stages p C s) (number_of e)

abbrev pub GivenOn : (c s : List ℕ) → Divisor → Type 0
GivenOn c s r = DivisorGiven (modulus c) (equation c) s r
