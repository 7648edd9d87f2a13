-- What the reader of a curve finds, of the equation by value e of the bytes s.
--   curve-value        the curve of the equation by value is the curve of the bytes
--   one-nonzero        the coefficient of x⁴ is not 0
--   below-coefficients the coefficients are below p
--   coefficient-at     the coefficients of the equation by value
--   rest_of, equation_checked      the stages of the equation by value are those of the bytes
use mathlib.Core.Path.{◌≡◌, refl, sym, ap, ◌∙◌, subst}
use mathlib.Core.Logic.{inl, inr}
use mathlib.Core.List.{List}
use Prim.Native.Nat.{ℕ, ◌<◌}
use native.Mathlib.Omega.{arith}
use Rattle.std.specs.Prelude.{Result, Ok, Err}
use Rattle.refusal.specs.declared.Refusal.{Refusal}
use Rattle.prime.specs.Prime.{Prime}
use Rattle.field.specs.Residue.{Z, el}
use Rattle.field.proofs.Element.{el-one}
use Rattle.field.proofs.Invert.{one_not_zero}
use Rattle.curve.specs.Curve.{Curve}
use Rattle.equation.specs.Equation.{curve_of, Coefficients}
use Rattle.equation.specs.declared.Equation.{Equation}
use Rattle.record.specs.Cause.{Stage}
use Rattle.record.specs.Curve.{modulus, coefficient_number, equation, curve_rest}
use Rattle.form.specs.Contract.{Checked}
use Rattle.checks.specs.Contract.{coefficient_of, equation_value}
use Rattle.checks.proofs.Answer.{nine}
use Rattle.reader.specs.Contract.{equation_stages}

pub curve-value : (s : List ℕ) → curve_of (equation_value s) ≡ equation s
curve-value s i =
    record {
      a0 = el-one (modulus s) i;
      c0 = el (modulus s) (coefficient_number s 0);
      c1 = el (modulus s) (coefficient_number s 1);
      c2 = el (modulus s) (coefficient_number s 2);
      c3 = el (modulus s) (coefficient_number s 3);
      c4 = el (modulus s) (coefficient_number s 4);
      c5 = el (modulus s) (coefficient_number s 5);
      c6 = el (modulus s) (coefficient_number s 6);
      c7 = el (modulus s) (coefficient_number s 7);
      c8 = el (modulus s) (coefficient_number s 8);
    }

module _ (e : Equation) (unit : e.a0 ≡ 1) (prime : Prime e.p) where
  pub one-nonzero : ¬ ((curve_of e).a0 ≡ (Z e.p).zero)
  one-nonzero h = one_not_zero e.p prime.two_le (sym (el-one e.p) ∙ ap (el e.p) (sym unit) ∙ h)

  pub below-coefficients : ((i : ℕ) → i < 9 → coefficient_of e i < e.p) → Coefficients e
  below-coefficients h =
      record {
        below_a0 = omega (arith, prime.two_le);
        below_c0 = h 0 (omega arith);
        below_c1 = h 1 (omega arith);
        below_c2 = h 2 (omega arith);
        below_c3 = h 3 (omega arith);
        below_c4 = h 4 (omega arith);
        below_c5 = h 5 (omega arith);
        below_c6 = h 6 (omega arith);
        below_c7 = h 7 (omega arith);
        below_c8 = h 8 (omega arith);
      }

-- the rest of a curve's stages for coefficients that are the same
module _ (p : ℕ) (C : Curve (Z p)) (c c' : ℕ → ℕ) (e : (i : ℕ) → i < 9 → c i ≡ c' i) where
  there : ((i : ℕ) → i < 9 → c i < p) → (i : ℕ) → i < 9 → c' i < p
  there f i l = subst (λ (m : ℕ). m < p) (e i l) (f i l)

  back : ((i : ℕ) → i < 9 → c' i < p) → (i : ℕ) → i < 9 → c i < p
  back f i l = subst (λ (m : ℕ). m < p) (sym (e i l)) (f i l)

  rest-same : (r : Result Unit Refusal) → Checked (curve_rest p C c) r → Checked (curve_rest p C c') r
  rest-same (Ok u) q = (q.0, (there q.1.0, q.1.1))
  rest-same (Err k) (inl f) = inl f
  rest-same (Err k) (inr (a, inl f)) = inr (a, inl (λ x. f.0 (back x), f.1))
  rest-same (Err k) (inr (a, inr (b, f))) = inr (a, inr (there b, f))

pub coefficient-at : (s : List ℕ) (i : ℕ) → i < 9 → coefficient_of (equation_value s) i ≡ coefficient_number s i
coefficient-at s = nine (λ i. coefficient_of (equation_value s) i ≡ coefficient_number s i) refl refl refl refl refl refl refl refl refl

-- the rest of the stages of the curve of the bytes s
abbrev pub rest_of : List ℕ → List Stage
rest_of s = curve_rest (modulus s) (equation s) (coefficient_number s)

pub equation_checked : (s : List ℕ) (e : Equation) (r : Result Unit Refusal) → e ≡ equation_value s → Checked (equation_stages e) r → Checked (rest_of s) r
equation_checked s e r q h =
    rest-same (modulus s) (equation s) _ (coefficient_number s) (coefficient-at s) r
    (subst (λ (C : Curve (Z (modulus s))). Checked (curve_rest (modulus s) C (coefficient_of (equation_value s))) r) (curve-value s)
    (subst (λ (x : Equation). Checked (equation_stages x) r) q h))
