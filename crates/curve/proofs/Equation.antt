-- The equation of the curve holds in its coordinate ring.
--   F-at O x y a0 c0 … c8        the value of F at x and y, over any operations
--   in_x-ascending, in_x-none    polynomials in x whose coefficients are listed, as elements
--   curve-equation     F(x, y) = 0 in the coordinate ring
use mathlib.Core.Path.{◌≡◌, ◌∙◌, ap}
use mathlib.Core.List.{List, [], ◌∷◌}
use Rattle.algebra.specs.Ring.{CommRing, Ops, ops}
use Rattle.algebra.proofs.Norm.{E-ops, nil, unit}
use Rattle.algebra.proofs.Solve.{solve_from, given, ◌⊞◌, ◌⊠◌, ⊟◌}
use Rattle.polynomial.specs.Poly.{Poly, const, X}
use Rattle.curve.proofs.Component as M
use Rattle.curve.specs.Curve.{Curve, ascending, t0, t1, t2, Coordinate, x, y, in_x, constant}

-- y³ + a0·x⁴ + c8·xy² + c7·x²y + c6·x³ + c5·y² + c4·xy + c3·x² + c2·y + c1·x + c0
abbrev pub F-at : {A : Type 0} → Ops A → A → A → A → A → A → A → A → A → A → A → A → A → A
F-at {A = A} O x y a0 c0 c1 c2 c3 c4 c5 c6 c7 c8 =
    let ◌+◌ : A → A → A = O.add in
    let ◌*◌ : A → A → A = O.mul in
    ◌+◌ (◌*◌ y (◌*◌ y y)) (◌+◌ (◌*◌ a0 (◌*◌ x (◌*◌ x (◌*◌ x x)))) (◌+◌ (◌*◌ c8 (◌*◌ x (◌*◌ y y))) (◌+◌ (◌*◌ c7 (◌*◌ x (◌*◌ x y))) (◌+◌ (◌*◌ c6 (◌*◌ x (◌*◌ x x)))
    (◌+◌ (◌*◌ c5 (◌*◌ y y)) (◌+◌ (◌*◌ c4 (◌*◌ x y)) (◌+◌ (◌*◌ c3 (◌*◌ x x)) (◌+◌ (◌*◌ c2 y) (◌+◌ (◌*◌ c1 x) c0)))))))))

module _ {k : CommRing} (C : Curve k) where
  open Coordinate C use {Car as El, zero as 𝟎, one as 𝟏, add as ◌⊕◌, mul as ◌⊗◌, neg as ⊖◌}

  infixl 60 ◌⊕◌
  infixl 70 ◌⊗◌
  infix 80 ⊖◌
  pub in_x-ascending : (c : k.Car) (cs : List k.Car) → in_x C (ascending k (c ∷ cs)) ≡ constant C c ⊕ x C ⊗ in_x C (ascending k cs)
  unfolding ascending Coordinate in_x x constant
  in_x-ascending c cs =
      M.embed-add (Poly k) (t0 C) (t1 C) (t2 C) (const k c) ((Poly k).mul (X k) (ascending k cs))
      ∙ ap (λ u. constant C c ⊕ u) (M.embed-mul (Poly k) (t0 C) (t1 C) (t2 C) (X k) (ascending k cs))

  pub in_x-none : in_x C (ascending k []) ≡ 𝟎
  unfolding ascending Coordinate in_x
  in_x-none = M.embed-zero (Poly k) (t0 C) (t1 C) (t2 C)

  next : (c : k.Car) (cs : List k.Car) {u : El} → in_x C (ascending k cs) ≡ u → in_x C (ascending k (c ∷ cs)) ≡ constant C c ⊕ x C ⊗ u
  next c cs e = in_x-ascending c cs ∙ ap (λ u. constant C c ⊕ x C ⊗ u) e

  in_x-t0 : in_x C (t0 C) ≡ constant C C.c0 ⊕ x C ⊗ (constant C C.c1 ⊕ x C ⊗ (constant C C.c3 ⊕ x C ⊗ (constant C C.c6 ⊕ x C ⊗ (constant C C.a0 ⊕ x C ⊗ 𝟎))))
  unfolding t0
  in_x-t0 = next C.c0 (C.c1 ∷ C.c3 ∷ C.c6 ∷ C.a0 ∷ []) (next C.c1 (C.c3 ∷ C.c6 ∷ C.a0 ∷ []) (next C.c3 (C.c6 ∷ C.a0 ∷ []) (next C.c6 (C.a0 ∷ []) (next C.a0 [] in_x-none))))

  in_x-t1 : in_x C (t1 C) ≡ constant C C.c2 ⊕ x C ⊗ (constant C C.c4 ⊕ x C ⊗ (constant C C.c7 ⊕ x C ⊗ 𝟎))
  unfolding t1
  in_x-t1 = next C.c2 (C.c4 ∷ C.c7 ∷ []) (next C.c4 (C.c7 ∷ []) (next C.c7 [] in_x-none))

  in_x-t2 : in_x C (t2 C) ≡ constant C C.c5 ⊕ x C ⊗ (constant C C.c8 ⊕ x C ⊗ 𝟎)
  unfolding t2
  in_x-t2 = next C.c5 (C.c8 ∷ []) (next C.c8 [] in_x-none)

  y-cubed : y C ⊗ (y C ⊗ y C) ≡ ⊖ (in_x C (t2 C) ⊗ (y C ⊗ y C) ⊕ in_x C (t1 C) ⊗ y C ⊕ in_x C (t0 C))
  unfolding Coordinate in_x y
  y-cubed = M.y-cubed (Poly k) (t0 C) (t1 C) (t2 C)

  -- from y³ to F
  gather : (R : CommRing) (x y a0 c0 c1 c2 c3 c4 c5 c6 c7 c8 T0 T1 T2 : R.Car) → (R.mul y (R.mul y y) ≡ R.neg (R.add (R.add (R.mul T2 (R.mul y y)) (R.mul T1 y)) T0))
      × ((T0 ≡ R.add c0 (R.mul x (R.add c1 (R.mul x (R.add c3 (R.mul x (R.add c6 (R.mul x (R.add a0 (R.mul x R.zero))))))))))
      × ((T1 ≡ R.add c2 (R.mul x (R.add c4 (R.mul x (R.add c7 (R.mul x R.zero))))))
      × ((T2 ≡ R.add c5 (R.mul x (R.add c8 (R.mul x R.zero)))) × Unit {0}))) → F-at (ops R) x y a0 c0 c1 c2 c3 c4 c5 c6 c7 c8 ≡ R.zero
  gather R =
      solve_from R 15 (λ x y a0 c0 c1 c2 c3 c4 c5 c6 c7 c8 T0 T1 T2. given unit (y ⊠ (y ⊠ y)) (⊟ (T2 ⊠ (y ⊠ y) ⊞ T1 ⊠ y ⊞ T0))
      ∷ given (⊟ unit) T0 (c0 ⊞ x ⊠ (c1 ⊞ x ⊠ (c3 ⊞ x ⊠ (c6 ⊞ x ⊠ (a0 ⊞ x ⊠ (nil)))))) ∷ given (⊟ y) T1 (c2 ⊞ x ⊠ (c4 ⊞ x ⊠ (c7 ⊞ x ⊠ (nil))))
      ∷ given (⊟ (y ⊠ y)) T2 (c5 ⊞ x ⊠ (c8 ⊞ x ⊠ (nil))) ∷ [])
      (λ x y a0 c0 c1 c2 c3 c4 c5 c6 c7 c8 T0 T1 T2. F-at E-ops x y a0 c0 c1 c2 c3 c4 c5 c6 c7 c8) (λ x y a0 c0 c1 c2 c3 c4 c5 c6 c7 c8 T0 T1 T2. nil) tt

  pub curve-equation : F-at (ops (Coordinate C)) (x C) (y C) (constant C C.a0) (constant C C.c0) (constant C C.c1) (constant C C.c2)
      (constant C C.c3) (constant C C.c4) (constant C C.c5) (constant C C.c6) (constant C C.c7) (constant C C.c8) ≡ 𝟎
  curve-equation =
      gather (Coordinate C) (x C) (y C) (constant C C.a0) (constant C C.c0) (constant C C.c1) (constant C C.c2) (constant C C.c3)
      (constant C C.c4) (constant C C.c5) (constant C C.c6) (constant C C.c7) (constant C C.c8) (in_x C (t0 C)) (in_x C (t1 C))
      (in_x C (t2 C)) (y-cubed, (in_x-t0, (in_x-t1, (in_x-t2, tt))))
