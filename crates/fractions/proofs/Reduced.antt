-- The equation by value e of the reduced curve, which has the quotients c, and its record.
--   nonsingular_asked          it may be tested
--   reduced-accepted           a nonsingular curve is accepted
--   reduced_singular           a singular curve leaves no reduced curve that is accepted
use mathlib.Core.Path.{◌≡◌, refl, sym, ◌∙◌, subst}
use mathlib.Core.List.{List, ◌∷◌}
use Prim.Native.Nat.{ℕ, ◌<◌, ◌≤◌}
use native.Mathlib.Omega.{arith}
use lib.ListN.{get_or}
use Rattle.prime.specs.Prime.{Prime}
use Rattle.field.specs.Residue.{Z}
use Rattle.curve.specs.Curve.{Curve}
use Rattle.nonsingular.specs.Nonsingular.{Nonsingular}
use Rattle.equation.specs.Equation.{curve_of}
use Rattle.equation.specs.declared.Equation.{Equation}
use Rattle.layout.specs.Layout.{Words, record_bytes}
use Rattle.record.specs.Curve.{limit, curve_kind, modulus, equation, AcceptedCurve, accepted_rest}
use Rattle.record.specs.Fractions.{numerator, denominator, Quotient, ReducedCurve, AcceptedReduced, FractionsForm, DenominatorsPass}
use Rattle.record.proofs.Fractions.{reduced-one, below-words, written-modulus, written-coefficient, written-curve}
use Rattle.checks.specs.Contract.{equation_numbers, equation_value}
use Rattle.checks.proofs.Answer.{nine}
use Rattle.reader.specs.Contract.{NonsingularAsked}
use Rattle.reader.proofs.CurveReader.{curve-value}
use Rattle.quotients.specs.Contract.{Quotients}
use Rattle.fractions.specs.Contract.{equation_from, ReducedTo}

module _ (s : List ℕ) (p : ℕ) (prime : Prime p) (few : p ≤ limit) (c : List ℕ) (q : Quotients s p c) (e : Equation) (is : e ≡ equation_from p c) where
  abbrev cs : List ℕ
  cs = equation_numbers (equation_from p c)

  abbrev w : List ℕ
  w = record_bytes curve_kind (p ∷ cs)

  quotient : (i : ℕ) → i < 9 → Quotient p (numerator s i) (denominator s i) (get_or cs i 0)
  quotient =
      nine (λ i. Quotient p (numerator s i) (denominator s i) (get_or cs i 0)) (q.each 0 (omega arith)) (q.each 1 (omega arith)) (q.each 2 (omega arith))
      (q.each 3 (omega arith)) (q.each 4 (omega arith)) (q.each 5 (omega arith)) (q.each 6 (omega arith)) (q.each 7 (omega arith)) (q.each 8 (omega arith))

  below : (i : ℕ) → i < 9 → get_or cs i 0 < p
  below i l = (quotient i l).below

  words : Words (p ∷ cs)
  words = below-words p cs refl few below

  reduced : ReducedCurve s p w
  reduced = record { cs = cs; nine = refl; each = quotient; bytes = refl }

  from : equation_value w ≡ equation_from p c
  from i =
      record {
        p = written-modulus p cs refl words i;
        a0 = 1;
        c0 = written-coefficient p cs refl words 0 (omega arith) i;
        c1 = written-coefficient p cs refl words 1 (omega arith) i;
        c2 = written-coefficient p cs refl words 2 (omega arith) i;
        c3 = written-coefficient p cs refl words 3 (omega arith) i;
        c4 = written-coefficient p cs refl words 4 (omega arith) i;
        c5 = written-coefficient p cs refl words 5 (omega arith) i;
        c6 = written-coefficient p cs refl words 6 (omega arith) i;
        c7 = written-coefficient p cs refl words 7 (omega arith) i;
        c8 = written-coefficient p cs refl words 8 (omega arith) i;
      }

  value : equation_value w ≡ e
  value = from ∙ sym is

  pub nonsingular_asked : NonsingularAsked e
  nonsingular_asked = subst NonsingularAsked (sym is) (record { one = refl; prime = prime; below = below })

  pub reduced-accepted : FractionsForm s → DenominatorsPass s p → Nonsingular (curve_of e) → ReducedTo s p e
  reduced-accepted form pass h =
      subst (ReducedTo s p) (sym is) (record { passes = (form, ((prime, few), (pass, ((w, good), tt)))); modulus = refl; accepted = good })
    where
      smooth : Nonsingular (equation w)
      smooth = subst (λ (C : Curve (Z (modulus w))). Nonsingular C) (curve-value w) (subst (λ (x : Equation). Nonsingular (curve_of x)) (sym value) h)

      good : AcceptedReduced s p w
      good = (reduced, written-curve p cs refl words prime few below smooth)

  pub reduced_singular : DenominatorsPass s p → ¬ Nonsingular (curve_of e) → ¬ ((v : List ℕ) × AcceptedReduced s p v)
  reduced_singular pass n (v, (r, a)) = n (subst (λ (x : Equation). Nonsingular (curve_of x)) value (subst (λ (C : Curve (Z (modulus w))). Nonsingular C) (sym (curve-value w)) smooth))
    where
      accepted : AcceptedCurve w
      accepted = subst AcceptedCurve (reduced-one p prime s v w pass r reduced) a

      smooth : Nonsingular (equation w)
      smooth = (accepted_rest w accepted).1.1.0
