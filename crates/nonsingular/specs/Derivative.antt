-- The normal forms of Fx and Fy, and their coefficients by pole number. That they are those of Fx and Fy is shown in proofs/Derivative.
--   derivative_x C     c1 + 2c3·x + 3c6·x² + 4a0·x³ + (c4 + 2c7·x)·y + c8·y²
--   derivative_y C     c2 + c4·x + c7·x² + (2c5 + 2c8·x)·y + 3y²
--   twice, thrice, four_times      2a = a + a, 3a = 2a + a, 4a = 2a + 2a
--   vector_x C, vector_y C         their coefficients by pole number, from 0 on, 0 at the gaps
use Rattle.std.specs.Prelude.{List, [], ◌∷◌}
use Rattle.algebra.specs.Ring.{CommRing}
use Rattle.curve.specs.Curve.{Curve, ascending, Coordinate}
use Rattle.nonsingular.specs.Normal.{of_parts}

module _ (k : CommRing) where
  abbrev pub twice : k.Car → k.Car
  twice a = k.add a a

  abbrev pub thrice : k.Car → k.Car
  thrice a = k.add (twice a) a

  abbrev pub four_times : k.Car → k.Car
  four_times a = k.add (twice a) (twice a)

module _ {k : CommRing} (C : Curve k) where
  unfoldable pub derivative_x : (Coordinate C).Car
  derivative_x =
      of_parts C (ascending k (C.c1 ∷ twice k C.c3 ∷ thrice k C.c6 ∷ four_times k C.a0 ∷ [])) (ascending k (C.c4 ∷ twice k C.c7 ∷ []))
      (ascending k (C.c8 ∷ []))

  unfoldable pub derivative_y : (Coordinate C).Car
  derivative_y =
      of_parts C (ascending k (C.c2 ∷ C.c4 ∷ C.c7 ∷ [])) (ascending k (twice k C.c5 ∷ twice k C.c8 ∷ []))
      (ascending k (thrice k k.one ∷ []))

  abbrev pub vector_x : List k.Car
  vector_x =
      C.c1 ∷ k.zero ∷ k.zero ∷ twice k C.c3 ∷ C.c4 ∷ k.zero ∷ thrice k C.c6 ∷ twice k C.c7 ∷ C.c8
      ∷ four_times k C.a0 ∷ []

  abbrev pub vector_y : List k.Car
  vector_y =
      C.c2 ∷ k.zero ∷ k.zero ∷ C.c4 ∷ twice k C.c5 ∷ k.zero ∷ C.c7 ∷ twice k C.c8 ∷ thrice k k.one
      ∷ []
