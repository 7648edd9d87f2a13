-- A test for nonsingular curves in the coordinate ring.
--   nonsingular        the curve is nonsingular exactly if the normal forms of Fx and Fy generate the whole ring
use mathlib.Core.Path.{◌≡◌, refl, sym, ◌∙◌, ap, ap₂}
use mathlib.Core.Logic.{◌↔◌}
use mathlib.Core.List.{[], ◌∷◌}
use Rattle.algebra.specs.Ring.{CommRing}
use Rattle.algebra.proofs.Laws.{zero-add}
use Rattle.algebra.proofs.Norm.{unit}
use Rattle.algebra.proofs.Solve.{◌⊞◌, ⊟◌, solve}
use Rattle.polynomial.specs.Plane.{Plane}
use Rattle.polynomial.proofs.Eval.{map-neg}
use Rattle.ideal.specs.Ideal.{Generated}
use Rattle.curve.specs.Curve.{Curve, Coordinate}
use Rattle.nonsingular.specs.Equation.{F, Fx, Fy}
use Rattle.nonsingular.specs.Nonsingular.{Nonsingular}
use Rattle.nonsingular.specs.Normal.{normal}
use Rattle.nonsingular.specs.Derivative.{derivative_x, derivative_y}
use Rattle.nonsingular.proofs.Quotient.{normal_onto, normal_kernel}
use Rattle.nonsingular.proofs.Derivative.{normal-Fx, normal-Fy}

module _ {k : CommRing} (C : Curve k) where
  open Plane k use {Car as Pol, one as 𝟏, add as ◌+ₚ◌, mul as ◌·ₚ◌, neg as -ₚ◌}
  open Coordinate C use {Car as El, zero as 𝟘, one as 𝟙, add as ◌⊕◌, mul as ◌⊗◌, neg as ⊖◌}

  infixl 60 ◌⊕◌ ◌+ₚ◌
  infixl 70 ◌⊗◌ ◌·ₚ◌
  infix 80 ⊖◌ -ₚ◌
  -- the normal form of s·Fx + t·Fy
  normal-pair : (s t : Pol) → (normal C).map (s ·ₚ Fx C +ₚ t ·ₚ Fy C) ≡ (normal C).map s ⊗ derivative_x C ⊕ (normal C).map t ⊗ derivative_y C
  normal-pair s t =
      (normal C).map_add _ _
      ∙ ap₂ ◌⊕◌ ((normal C).map_mul s (Fx C) ∙ ap (λ d. (normal C).map s ⊗ d) (normal-Fx C)) ((normal C).map_mul t (Fy C) ∙ ap (λ d. (normal C).map t ⊗ d) (normal-Fy C))

  normal-multiple : (r : Pol) → (normal C).map (r ·ₚ F C) ≡ 𝟘
  normal-multiple r = (normal_kernel C (r ·ₚ F C)).1 (r, refl)

  -- the normal form of r·F + s·Fx + t·Fy = 1 is an equation in the coordinate ring
  there : Nonsingular C → Generated (Coordinate C) (derivative_x C ∷ derivative_y C ∷ []) 𝟙
  there (r, s, t, e) = ((normal C).map s, (normal C).map t ⊗ derivative_y C, ((normal C).map t, 𝟘, refl, sym ((Coordinate C).add_zero _)), unit-sum)
    where
      unit-sum : 𝟙 ≡ (normal C).map s ⊗ derivative_x C ⊕ (normal C).map t ⊗ derivative_y C
      unit-sum =
          sym (normal C).map_one ∙ ap (normal C).map (sym e ∙ (Plane k).add_assoc _ _ _)
          ∙ (normal C).map_add _ _ ∙ ap₂ ◌⊕◌ (normal-multiple r) (normal-pair s t) ∙ zero-add (Coordinate C) _

  -- from a·Fx + b·Fy = 1 in the coordinate ring: 1 − s·Fx − t·Fy has the normal form 0, for s and t with the normal forms a and b
  lift : (a b : El) → 𝟙 ≡ a ⊗ derivative_x C ⊕ b ⊗ derivative_y C → Nonsingular C
  lift a b e = (multiple.0, s, t, closed)
    where
      s : Pol
      s = (normal_onto C a).0

      t : Pol
      t = (normal_onto C b).0

      pair : (normal C).map (s ·ₚ Fx C +ₚ t ·ₚ Fy C) ≡ 𝟙
      pair =
          normal-pair s t ∙ ap₂ (λ u v. u ⊗ derivative_x C ⊕ v ⊗ derivative_y C) (normal_onto C a).1 (normal_onto C b).1 ∙ sym e

      vanish : (normal C).map (𝟏 +ₚ -ₚ (s ·ₚ Fx C +ₚ t ·ₚ Fy C)) ≡ 𝟘
      vanish = (normal C).map_add _ _ ∙ ap₂ ◌⊕◌ (normal C).map_one (map-neg (normal C) _ ∙ ap ⊖◌ pair) ∙ (Coordinate C).add_neg 𝟙

      multiple : (q : Pol) × (𝟏 +ₚ -ₚ (s ·ₚ Fx C +ₚ t ·ₚ Fy C) ≡ q ·ₚ F C)
      multiple = (normal_kernel C _).0 vanish

      closed : multiple.0 ·ₚ F C +ₚ s ·ₚ Fx C +ₚ t ·ₚ Fy C ≡ 𝟏
      closed =
          ap (λ m. m +ₚ s ·ₚ Fx C +ₚ t ·ₚ Fy C) (sym multiple.1)
          ∙ solve (Plane k) 2 (λ u v. unit ⊞ ⊟ (u ⊞ v) ⊞ u ⊞ v) (λ u v. unit) tt (s ·ₚ Fx C) (t ·ₚ Fy C)

  back : Generated (Coordinate C) (derivative_x C ∷ derivative_y C ∷ []) 𝟙 → Nonsingular C
  back (a, s, (b, z, ez, es), e) =
      lift a b (e ∙ ap (λ u. a ⊗ derivative_x C ⊕ u) (es ∙ ap (λ u. b ⊗ derivative_y C ⊕ u) ez ∙ (Coordinate C).add_zero _))

  pub nonsingular : Nonsingular C ↔ Generated (Coordinate C) (derivative_x C ∷ derivative_y C ∷ []) 𝟙
  nonsingular = (there, back)
