-- The coordinate ring is k[x, y] modulo F.
--   F-cubic            F is the monic cubic y³ + t2·y² + t1·y + t0 over k[x]
--   normal_onto        each element of the coordinate ring is the normal form of a polynomial in x and y
--   normal_kernel      a polynomial has the normal form 0 exactly if it is a multiple of F
--   part_0 part_1 part_2           the parts of the element a + b·y + c·y²
--   at-of_parts        the element of_parts C a b c is a + b·y + c·y²
--   normal_quadratic   the normal form of the polynomial a + b·y + c·y² is the element of_parts C a b c
use mathlib.Core.Path.{◌≡◌, sym, ◌∙◌, ap, subst}
use mathlib.Core.Logic.{◌↔◌}
use mathlib.Core.List.{List, [], ◌∷◌}
use Prim.Native.Nat.{ℕ}
use Rattle.algebra.specs.Ring.{CommRing}
use Rattle.algebra.proofs.Norm.{nil, unit}
use Rattle.algebra.proofs.Solve.{◌⊞◌, ◌⊠◌, ⊟◌, solve, given, solve_from}
use Rattle.polynomial.specs.Poly.{Poly, const}
use Rattle.polynomial.specs.Plane as P
use Rattle.polynomial.specs.Plane.{Plane, scalar}
use Rattle.polynomial.proofs.Cubic.{cubic, quadratic}
use Rattle.polynomial.proofs.Coef.{const-zero, const-add, const-mul}
use Rattle.polynomial.proofs.Kernel as K
use Rattle.curve.proofs.Component as M
use Rattle.curve.specs.Curve.{Curve, ascending, t0, t1, t2, Coordinate, in_x, y, part}
use Rattle.nonsingular.specs.Equation.{F}
use Rattle.nonsingular.specs.Normal.{of_parts, over_x, normal}

-- a polynomial in x whose coefficients are listed, as a polynomial in x and y
module _ (k : CommRing) where
  none : const (Poly k) (ascending k []) ≡ (Plane k).zero
  unfolding ascending
  none = const-zero (Poly k)

  more : (c : k.Car) (cs : List k.Car) → const (Poly k) (ascending k (c ∷ cs)) ≡ (Plane k).add (scalar k c) ((Plane k).mul (P.x k) (const (Poly k) (ascending k cs)))
  unfolding ascending
  more c cs = const-add (Poly k) _ _ ∙ ap ((Plane k).add (scalar k c)) (const-mul (Poly k) _ _)

module _ {k : CommRing} (C : Curve k) where
  open Plane k use {Car as Pol, zero as 𝟎, one as 𝟏, add as ◌+ₚ◌, mul as ◌·ₚ◌}
  open Coordinate C use {Car as El, zero as 𝟘, one as 𝟙, add as ◌⊕◌, mul as ◌⊗◌, neg as ⊖◌}

  infixl 60 ◌⊕◌ ◌+ₚ◌
  infixl 70 ◌⊗◌ ◌·ₚ◌
  infix 80 ⊖◌
  const-t0 : const (Poly k) (t0 C) ≡ scalar k C.c0 +ₚ P.x k ·ₚ (scalar k C.c1 +ₚ P.x k ·ₚ (scalar k C.c3 +ₚ P.x k ·ₚ (scalar k C.c6 +ₚ P.x k ·ₚ (scalar k C.a0 +ₚ P.x k ·ₚ 𝟎))))
  unfolding t0
  const-t0 = simp (more k, none k)

  const-t1 : const (Poly k) (t1 C) ≡ scalar k C.c2 +ₚ P.x k ·ₚ (scalar k C.c4 +ₚ P.x k ·ₚ (scalar k C.c7 +ₚ P.x k ·ₚ 𝟎))
  unfolding t1
  const-t1 = simp (more k, none k)

  const-t2 : const (Poly k) (t2 C) ≡ scalar k C.c5 +ₚ P.x k ·ₚ (scalar k C.c8 +ₚ P.x k ·ₚ 𝟎)
  unfolding t2
  const-t2 = simp (more k, none k)

  pub F-cubic : F C ≡ cubic (Poly k) (t0 C) (t1 C) (t2 C)
  unfolding F cubic
  F-cubic =
      solve (Plane k) 12 (λ x y a0 c0 c1 c2 c3 c4 c5 c6 c7 c8.
      y ⊠ y ⊠ y ⊞ a0 ⊠ (x ⊠ x ⊠ x ⊠ x) ⊞ c8 ⊠ (x ⊠ y ⊠ y) ⊞ c7 ⊠ (x ⊠ x ⊠ y) ⊞ c6 ⊠ (x ⊠ x ⊠ x) ⊞ c5 ⊠ (y ⊠ y) ⊞ c4 ⊠ (x ⊠ y) ⊞ c3 ⊠ (x ⊠ x) ⊞ c2 ⊠ y ⊞ c1 ⊠ x ⊞ c0)
      (λ x y a0 c0 c1 c2 c3 c4 c5 c6 c7 c8.
      y ⊠ y ⊠ y ⊞ (c5 ⊞ x ⊠ (c8 ⊞ x ⊠ nil)) ⊠ (y ⊠ y) ⊞ (c2 ⊞ x ⊠ (c4 ⊞ x ⊠ (c7 ⊞ x ⊠ nil))) ⊠ y ⊞ (c0 ⊞ x ⊠ (c1 ⊞ x ⊠ (c3 ⊞ x ⊠ (c6 ⊞ x ⊠ (a0 ⊞ x ⊠ nil))))))
      tt (P.x k) (P.y k) (scalar k C.a0) (scalar k C.c0) (scalar k C.c1) (scalar k C.c2) (scalar k C.c3) (scalar k C.c4)
      (scalar k C.c5) (scalar k C.c6) (scalar k C.c7) (scalar k C.c8)
      ∙ sym (λ i. P.y k ·ₚ P.y k ·ₚ P.y k +ₚ const-t2 i ·ₚ (P.y k ·ₚ P.y k) +ₚ const-t1 i ·ₚ P.y k +ₚ const-t0 i)

  y-cubed : y C ⊗ (y C ⊗ y C) ≡ ⊖ (in_x C (t2 C) ⊗ (y C ⊗ y C) ⊕ in_x C (t1 C) ⊗ y C ⊕ in_x C (t0 C))
  unfolding Coordinate in_x y
  y-cubed = M.y-cubed (Poly k) (t0 C) (t1 C) (t2 C)

  -- y³ + t2·y² + t1·y + t0 is 0 in the coordinate ring
  root : K.at-cubic (over_x C) (y C) (t0 C) (t1 C) (t2 C) ≡ 𝟘
  root =
      solve_from (Coordinate C) 4 (λ y a b c. given unit (y ⊠ (y ⊠ y)) (⊟ (c ⊠ (y ⊠ y) ⊞ b ⊠ y ⊞ a)) ∷ []) (λ y a b c. y ⊠ y ⊠ y ⊞ c ⊠ (y ⊠ y) ⊞ b ⊠ y ⊞ a) (λ y a b c. nil) tt
      (y C) (in_x C (t0 C)) (in_x C (t1 C)) (in_x C (t2 C)) (y-cubed, tt)

  at_spread : (g : El) → K.at_quadratic (over_x C) (y C) (part C 0 g) (part C 1 g) (part C 2 g) ≡ g
  unfolding Coordinate in_x y part
  at_spread g = sym (M.spread (Poly k) (t0 C) (t1 C) (t2 C) g)

  pub part_0 : (a b c : (Poly k).Car) → part C 0 (of_parts C a b c) ≡ a
  unfolding Coordinate part of_parts
  part_0 a b c = M.component-triple_0 (Poly k) (t0 C) (t1 C) (t2 C) a b c

  pub part_1 : (a b c : (Poly k).Car) → part C 1 (of_parts C a b c) ≡ b
  unfolding Coordinate part of_parts
  part_1 a b c = M.component-triple_1 (Poly k) (t0 C) (t1 C) (t2 C) a b c

  pub part_2 : (a b c : (Poly k).Car) → part C 2 (of_parts C a b c) ≡ c
  unfolding Coordinate part of_parts
  part_2 a b c = M.component-triple_2 (Poly k) (t0 C) (t1 C) (t2 C) a b c

  part-zero : (j : ℕ) → part C j 𝟘 ≡ (Poly k).zero
  unfolding Coordinate part
  part-zero j = M.component-zero (Poly k) (t0 C) (t1 C) (t2 C) j

  pub at-of_parts : (a b c : (Poly k).Car) → K.at_quadratic (over_x C) (y C) a b c ≡ of_parts C a b c
  at-of_parts a b c =
      sym (λ i. K.at_quadratic (over_x C) (y C) (part_0 a b c i) (part_1 a b c i) (part_2 a b c i)) ∙ at_spread (of_parts C a b c)

  independent : K.Independent (over_x C) (y C)
  independent a b c e =
      (sym (part_0 a b c) ∙ ap (part C 0) zero ∙ part-zero 0, sym (part_1 a b c) ∙ ap (part C 1) zero ∙ part-zero 1, sym (part_2 a b c) ∙ ap (part C 2) zero ∙ part-zero 2)
    where
      zero : of_parts C a b c ≡ 𝟘
      zero = sym (at-of_parts a b c) ∙ e

  pub normal_quadratic : (a b c : (Poly k).Car) → (normal C).map (quadratic (Poly k) a b c) ≡ of_parts C a b c
  normal_quadratic a b c = K.eval_quadratic (over_x C) (y C) a b c ∙ at-of_parts a b c

  pub normal_onto : (g : El) → (f : Pol) × ((normal C).map f ≡ g)
  normal_onto g =
      (quadratic (Poly k) (part C 0 g) (part C 1 g) (part C 2 g), K.eval_quadratic (over_x C) (y C) _ _ _ ∙ at_spread g)

  pub normal_kernel : (f : Pol) → ((normal C).map f ≡ 𝟘) ↔ ((q : Pol) × (f ≡ q ·ₚ F C))
  normal_kernel f = (λ e. subst (λ m. (q : Pol) × (f ≡ q ·ₚ m)) (sym F-cubic) (cubics.0 e), λ m. cubics.1 (m.0, m.1 ∙ ap (λ g. m.0 ·ₚ g) F-cubic))
    where
      cubics : ((normal C).map f ≡ 𝟘) ↔ ((q : Pol) × (f ≡ q ·ₚ cubic (Poly k) (t0 C) (t1 C) (t2 C)))
      cubics = K.kernel (over_x C) (y C) (t0 C) (t1 C) (t2 C) root independent f
