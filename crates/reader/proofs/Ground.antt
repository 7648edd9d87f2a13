-- The ground of an accepted curve is that of the curve of its bytes.
--   ground_asked, on   an accepted curve has a ground
--   ground-at, ground-is, grounded-at, grounded_on      it is the ground of the curve of the bytes
--   at-curve           what holds at the ground holds of the curve of the bytes
use mathlib.Core.Path.{◌≡◌, refl, sym, ap, subst}
use mathlib.Core.List.{List}
use Prim.Native.Nat.{ℕ, ◌<◌}
use native.Mathlib.Omega.{arith}
use Rattle.field.specs.Residue.{Z}
use Rattle.curve.specs.Curve.{Curve}
use Rattle.multiplication.specs.Contract.{Cube}
use Rattle.equation.specs.Equation.{Coefficients}
use Rattle.equation.specs.declared.Equation.{Equation}
use Rattle.ground.specs.declared.Ground.{Ground}
use Rattle.ground.specs.Ground.{UnitOf, Grounded, AtGround, GroundAsked, GroundOf}
use Rattle.record.specs.Curve.{modulus, equation, AcceptedCurve, accepted_prime, accepted_limit, accepted_below, setting_of}
use Rattle.checks.specs.Contract.{equation_value}
use Rattle.reader.specs.Reading.{On}
use Rattle.reader.proofs.CurveReader.{curve-value, below-coefficients, coefficient-at}

module _ (c : List ℕ) (A : AcceptedCurve c) where
  value-coefficients : Coefficients (equation_value c)
  value-coefficients =
      below-coefficients (equation_value c) refl (accepted_prime c A)
      (λ i l. subst (λ (m : ℕ). m < modulus c) (sym (coefficient-at c i l)) (accepted_below c A i l))

  module _ (e : Equation) (q : e ≡ equation_value c) where
    pub ground_asked : GroundAsked e
    ground_asked = subst GroundAsked (sym q) (record { coefficients = value-coefficients; one = refl })

    pub on : (g : Ground) → GroundOf e g → On c g
    on g h = record { accepted = A; ground = subst (λ (x : Equation). GroundOf x g) q h }

-- g with the modulus that the bytes c have
abbrev pub ground-at : List ℕ → Ground → Ground
ground-at c g = record { p = modulus c; by = g.by; unit = g.unit; cube = g.cube }

module _ {c : List ℕ} {g : Ground} (o : On c g) where
  pub ground-is : g ≡ ground-at c g
  ground-is = ap (λ (p : ℕ). record { p = p; by = g.by; unit = g.unit; cube = g.cube }) o.ground.modulus

  -- its curve is that of the bytes
  abbrev pub grounded-at : Grounded (ground-at c g)
  grounded-at =
      record {
        small = omega (arith, accepted_limit c o.accepted);
        divides = o.ground.divides;
        ready =
            record {
              setting = setting_of c o.accepted;
              y3_vec = o.ground.cube_is.vec;
              y3_top = o.ground.cube_is.top;
              cube = subst (λ (C : Curve (Z (modulus c))). Cube (modulus c) C g.cube) (curve-value c) o.ground.cube_is.cube;
            };
        unit_is = subst (λ (C : Curve (Z (modulus c))). UnitOf (modulus c) g.unit C) (curve-value c) o.ground.unit_is;
      }

  pub grounded_on : Grounded g
  grounded_on = subst Grounded (sym ground-is) grounded-at

  pub at-curve : (X : (p : ℕ) → Curve (Z p) → Type 0) → AtGround g X → X (modulus c) (equation c)
  at-curve X h = subst (λ (k : Ground). AtGround k X) ground-is h grounded-at
