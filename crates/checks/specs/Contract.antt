-- What the functions on the numbers of records require and ensure.
--   AllBelow p ns          every number of ns is below p
--   Word s i n             n is the four-byte number at place i of s; 0 if it is not whole
--   ValueOf κ s r          r has the kind κ and the numbers of s, 0 for a number that s has not
--   equation_numbers e, coefficient_of e i     the nine coefficients of an equation, and the i-th of them
--   equation_value s       the equation by value of a curve's bytes
use Rattle.std.specs.Prelude.{◌≡◌, List, [], ◌∷◌, ℕ, ◌+◌, ◌*◌, ◌<◌, ◌≤◌, length, get_or}
use Rattle.layout.specs.Layout.{number4}
use Rattle.kind.specs.declared.Kind.{Kind}
use Rattle.equation.specs.declared.Equation.{Equation}
use Rattle.basis.specs.Divisor.{numbers_of}
use Rattle.basis.specs.declared.Divisor.{Divisor}
use Rattle.record.specs.Curve.{modulus, coefficient_number}

abbrev pub AllBelow : ℕ → List ℕ → Type 0
AllBelow p [] = Unit
AllBelow p (n ∷ ns) = (n < p) × AllBelow p ns

pub record Word (s : List ℕ) (i n : ℕ) : Type 0 where
  pub is : i + 4 ≤ length s → n ≡ number4 s i
  pub past : length s < i + 4 → n ≡ 0

pub record ValueOf (κ : Kind) (s : List ℕ) (r : Divisor) : Type 0 where
  pub kind : r.kind ≡ κ
  pub number : (i : ℕ) → i < 9 → Word s (4 + 4 * i) (get_or (numbers_of r) i 0)

abbrev pub equation_numbers : Equation → List ℕ
equation_numbers e = e.c0 ∷ e.c1 ∷ e.c2 ∷ e.c3 ∷ e.c4 ∷ e.c5 ∷ e.c6 ∷ e.c7 ∷ e.c8 ∷ []

abbrev pub coefficient_of : Equation → ℕ → ℕ
coefficient_of e i = get_or (equation_numbers e) i 0

abbrev pub equation_value : List ℕ → Equation
equation_value s =
    record {
      p = modulus s;
      a0 = 1;
      c0 = coefficient_number s 0;
      c1 = coefficient_number s 1;
      c2 = coefficient_number s 2;
      c3 = coefficient_number s 3;
      c4 = coefficient_number s 4;
      c5 = coefficient_number s 5;
      c6 = coefficient_number s 6;
      c7 = coefficient_number s 7;
      c8 = coefficient_number s 8;
    }
