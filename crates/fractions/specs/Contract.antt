-- What the functions on records of fractions require and ensure.
--   equation_from p c      the equation with the nine coefficients c
--   ReducedTo s p e        e is the equation of the reduced curve, and what is checked is passed
--   ReduceFound s p a      reduce: the equation of the reduced curve, or the first cause
use Rattle.std.specs.Prelude.{◌≡◌, List, ◌∷◌, ℕ, get_or, Result, Ok, Err}
use Rattle.equation.specs.declared.Equation.{Equation}
use Rattle.layout.specs.Layout.{record_bytes}
use Rattle.refusal.specs.Refusal.{number_of}
use Rattle.refusal.specs.declared.Refusal.{Refusal}
use Rattle.record.specs.Cause.{FirstCause, Passes}
use Rattle.record.specs.Curve.{curve_kind}
use Rattle.record.specs.Fractions.{AcceptedReduced, fractions_stages}
use Rattle.checks.specs.Contract.{equation_numbers}

abbrev pub equation_from : ℕ → List ℕ → Equation
equation_from p c =
    record {
      p = p;
      a0 = 1;
      c0 = get_or c 0 0;
      c1 = get_or c 1 0;
      c2 = get_or c 2 0;
      c3 = get_or c 3 0;
      c4 = get_or c 4 0;
      c5 = get_or c 5 0;
      c6 = get_or c 6 0;
      c7 = get_or c 7 0;
      c8 = get_or c 8 0;
    }

pub record ReducedTo (s : List ℕ) (p : ℕ) (e : Equation) : Type 0 where
  pub passes : Passes (fractions_stages s p)
  pub modulus : e.p ≡ p
  pub accepted : AcceptedReduced s p (record_bytes curve_kind (p ∷ equation_numbers e))

abbrev pub ReduceFound : (s : List ℕ) (p : ℕ) → Result Equation Refusal → Type 0
ReduceFound s p (Ok e) = ReducedTo s p e
ReduceFound s p (Err e) = FirstCause (fractions_stages s p) (number_of e)
