-- The elements derivative_x and derivative_y are the normal forms of Fx and Fy; their coefficients by pole number.
--   coef-ascending     the coefficients of a polynomial whose coefficients are listed
--   normal-Fx normal-Fy                      derivative_x and derivative_y are the normal forms of Fx and Fy
--   coefficient-derivative_x                 the coefficient of derivative_x at n is the entry of vector_x at n, and 0 past its end
--   coefficient-derivative_y                 the same for derivative_y and vector_y
use mathlib.Core.Path.{◌≡◌, refl, sym, ◌∙◌, ap}
use mathlib.Core.List.{List, [], ◌∷◌}
use mathlib.Core.Logic.{inl, inr}
use Prim.Native.Nat.{ℕ, zero, suc, ◌+◌, ◌*◌, ◌≤◌}
use native.Mathlib.Omega.{arith}
use lib.Dec.{lit≤}
use lib.ListN.{get_or, length, get_or-eq_default}
use Rattle.algebra.specs.Ring.{CommRing}
use Rattle.algebra.proofs.Laws.{mul-zero}
use Rattle.algebra.proofs.Norm.{num}
use Rattle.algebra.proofs.Solve.{◌⊞◌, ◌⊠◌, solve}
use Rattle.polynomial.specs.Poly.{Poly, coef, poly_path}
use Rattle.polynomial.specs.Deriv.{numeral, deriv}
use Rattle.polynomial.specs.Plane.{by_x, by_y}
use Rattle.polynomial.proofs.Coef.{coef-zero, coef-add, coef-one-head, coef-one-next, coef-split-head, coef-split-next}
use Rattle.polynomial.proofs.Deriv.{coef-deriv, numeral-number}
use Rattle.polynomial.proofs.Cubic.{deriv-cubic, by_x-cubic}
use Rattle.ideal.specs.Poles.{IsGap}
use Rattle.curve.specs.Curve.{Curve, ascending, t0, t1, t2, Coordinate, at}
use Rattle.curve.specs.Pole.{pole}
use Rattle.curve.proofs.Pole.{Located, place, gap, locate}
use Rattle.curve.specs.Sequence.{coefficient}
use Rattle.curve.proofs.Term.{coefficient-pole, coefficient-gap}
use Rattle.nonsingular.specs.Equation.{Fx, Fy}
use Rattle.nonsingular.specs.Normal.{of_parts, normal}
use Rattle.nonsingular.specs.Derivative.{twice, thrice, four_times, derivative_x, derivative_y, vector_x, vector_y}
use Rattle.nonsingular.proofs.Quotient.{F-cubic, part_0, part_1, part_2, normal_quadratic}

module _ (k : CommRing) where
  pub coef-ascending : (cs : List k.Car) (i : ℕ) → coef k (ascending k cs) i ≡ get_or cs i k.zero
  unfolding ascending
  coef-ascending [] i = coef-zero k i
  coef-ascending (c ∷ cs) zero = coef-split-head k c (ascending k cs)
  coef-ascending (c ∷ cs) (suc i) = coef-split-next k c (ascending k cs) i ∙ coef-ascending cs i

  times_1 : (c : k.Car) → k.mul (numeral k 1) c ≡ c
  times_1 c = ap (λ n. k.mul n c) (numeral-number k 1) ∙ solve k 1 (λ c. num 1 ⊠ c) (λ c. c) tt c

  times_2 : (c : k.Car) → k.mul (numeral k 2) c ≡ twice k c
  times_2 c = ap (λ n. k.mul n c) (numeral-number k 2) ∙ solve k 1 (λ c. num 2 ⊠ c) (λ c. c ⊞ c) tt c

  times_3 : (c : k.Car) → k.mul (numeral k 3) c ≡ thrice k c
  times_3 c = ap (λ n. k.mul n c) (numeral-number k 3) ∙ solve k 1 (λ c. num 3 ⊠ c) (λ c. c ⊞ c ⊞ c) tt c

  times_4 : (c : k.Car) → k.mul (numeral k 4) c ≡ four_times k c
  times_4 c = ap (λ n. k.mul n c) (numeral-number k 4) ∙ solve k 1 (λ c. num 4 ⊠ c) (λ c. (c ⊞ c) ⊞ (c ⊞ c)) tt c

  -- the derivative of a polynomial whose coefficients are listed
  deriv-ascending : (cs ds : List k.Car) → ((i : ℕ) → k.mul (numeral k (suc i)) (get_or cs (suc i) k.zero) ≡ get_or ds i k.zero) → deriv k (ascending k cs) ≡ ascending k ds
  deriv-ascending cs ds e = poly_path k (λ i. coef-deriv k (ascending k cs) i ∙ ap (k.mul (numeral k (suc i))) (coef-ascending cs (suc i)) ∙ e i ∙ sym (coef-ascending ds i))

module _ {k : CommRing} (C : Curve k) where
  open k use {Car, zero as 𝟘, one as 𝟙}

  deriv-t0 : deriv k (t0 C) ≡ ascending k (C.c1 ∷ twice k C.c3 ∷ thrice k C.c6 ∷ four_times k C.a0 ∷ [])
  unfolding t0
  deriv-t0 = deriv-ascending k (C.c0 ∷ C.c1 ∷ C.c3 ∷ C.c6 ∷ C.a0 ∷ []) (C.c1 ∷ twice k C.c3 ∷ thrice k C.c6 ∷ four_times k C.a0 ∷ []) go
    where
      go : (i : ℕ) → k.mul (numeral k (suc i)) (get_or (C.c0 ∷ C.c1 ∷ C.c3 ∷ C.c6 ∷ C.a0 ∷ []) (suc i) 𝟘) ≡ get_or (C.c1 ∷ twice k C.c3 ∷ thrice k C.c6 ∷ four_times k C.a0 ∷ []) i 𝟘
      go zero = times_1 k _
      go (suc zero) = times_2 k _
      go (suc (suc zero)) = times_3 k _
      go (suc (suc (suc zero))) = times_4 k _
      go (suc (suc (suc (suc i)))) = mul-zero k _

  deriv-t1 : deriv k (t1 C) ≡ ascending k (C.c4 ∷ twice k C.c7 ∷ [])
  unfolding t1
  deriv-t1 = deriv-ascending k (C.c2 ∷ C.c4 ∷ C.c7 ∷ []) (C.c4 ∷ twice k C.c7 ∷ []) go
    where
      go : (i : ℕ) → k.mul (numeral k (suc i)) (get_or (C.c2 ∷ C.c4 ∷ C.c7 ∷ []) (suc i) 𝟘) ≡ get_or (C.c4 ∷ twice k C.c7 ∷ []) i 𝟘
      go zero = times_1 k _
      go (suc zero) = times_2 k _
      go (suc (suc i)) = mul-zero k _

  deriv-t2 : deriv k (t2 C) ≡ ascending k (C.c8 ∷ [])
  unfolding t2
  deriv-t2 = deriv-ascending k (C.c5 ∷ C.c8 ∷ []) (C.c8 ∷ []) go
    where
      go : (i : ℕ) → k.mul (numeral k (suc i)) (get_or (C.c5 ∷ C.c8 ∷ []) (suc i) 𝟘) ≡ get_or (C.c8 ∷ []) i 𝟘
      go zero = times_1 k _
      go (suc i) = mul-zero k _

  pub normal-Fx : (normal C).map (Fx C) ≡ derivative_x C
  unfolding derivative_x
  normal-Fx =
      ap (λ f. (normal C).map (by_x k f)) (F-cubic C) ∙ ap (normal C).map (by_x-cubic k (t0 C) (t1 C) (t2 C)) ∙ normal_quadratic C _ _ _
      ∙ (λ i. of_parts C (deriv-t0 i) (deriv-t1 i) (deriv-t2 i))

  twice-t2 : (Poly k).mul (numeral (Poly k) 2) (t2 C) ≡ ascending k (twice k C.c5 ∷ twice k C.c8 ∷ [])
  unfolding t2
  twice-t2 =
      poly_path k (λ i. ap (λ f. coef k f i) (times_2 (Poly k) (t2 C)) ∙ coef-add k (t2 C) (t2 C) i
      ∙ ap (twice k) (coef-ascending k (C.c5 ∷ C.c8 ∷ []) i) ∙ go i ∙ sym (coef-ascending k (twice k C.c5 ∷ twice k C.c8 ∷ []) i))
    where
      go : (i : ℕ) → twice k (get_or (C.c5 ∷ C.c8 ∷ []) i 𝟘) ≡ get_or (twice k C.c5 ∷ twice k C.c8 ∷ []) i 𝟘
      go zero = refl
      go (suc zero) = refl
      go (suc (suc i)) = k.add_zero 𝟘

  three : numeral (Poly k) 3 ≡ ascending k (thrice k 𝟙 ∷ [])
  three =
      poly_path k (λ i. ap (λ f. coef k f i) (sym ((Poly k).mul_one _) ∙ times_3 (Poly k) (Poly k).one) ∙ coef-add k _ _ i
      ∙ ap (λ c. k.add c (coef k (Poly k).one i)) (coef-add k _ _ i) ∙ go i ∙ sym (coef-ascending k (thrice k 𝟙 ∷ []) i))
    where
      go : (i : ℕ) → thrice k (coef k (Poly k).one i) ≡ get_or (thrice k 𝟙 ∷ []) i 𝟘
      go zero = ap (thrice k) (coef-one-head k)
      go (suc i) = ap (thrice k) (coef-one-next k i) ∙ k.add_zero _ ∙ k.add_zero 𝟘

  t1-listed : t1 C ≡ ascending k (C.c2 ∷ C.c4 ∷ C.c7 ∷ [])
  unfolding t1
  t1-listed = refl

  pub normal-Fy : (normal C).map (Fy C) ≡ derivative_y C
  unfolding derivative_y
  normal-Fy =
      ap (λ f. (normal C).map (by_y k f)) (F-cubic C) ∙ ap (normal C).map (deriv-cubic (Poly k) (t0 C) (t1 C) (t2 C)) ∙ normal_quadratic C _ _ _
      ∙ (λ i. of_parts C (t1-listed i) (twice-t2 i) (three i))

  -- the coefficients of an element whose parts are listed
  module _ (us vs ws : List Car) where
    abbrev listed : (Coordinate C).Car
    listed = of_parts C (ascending k us) (ascending k vs) (ascending k ws)

    at_0 : (i : ℕ) → coefficient C (pole i 0) listed ≡ get_or us i 𝟘
    unfolding at
    at_0 i = coefficient-pole C i 0 (lit≤ tt) listed ∙ ap (λ f. coef k f i) (part_0 C _ _ _) ∙ coef-ascending k us i

    at_1 : (i : ℕ) → coefficient C (pole i 1) listed ≡ get_or vs i 𝟘
    unfolding at
    at_1 i = coefficient-pole C i 1 (lit≤ tt) listed ∙ ap (λ f. coef k f i) (part_1 C _ _ _) ∙ coef-ascending k vs i

    at_2 : (i : ℕ) → coefficient C (pole i 2) listed ≡ get_or ws i 𝟘
    unfolding at
    at_2 i = coefficient-pole C i 2 (lit≤ tt) listed ∙ ap (λ f. coef k f i) (part_2 C _ _ _) ∙ coef-ascending k ws i

    at_gap : (n : ℕ) → IsGap n → coefficient C n listed ≡ 𝟘
    at_gap n h = coefficient-gap C n h listed

    at_high : (n : ℕ) → length us * 3 ≤ n + 2 → length vs * 3 + 4 ≤ n + 2 → length ws * 3 + 8 ≤ n + 2 → coefficient C n listed ≡ 𝟘
    at_high n ha hb hc = go (locate n)
      where
        go : Located n → coefficient C n listed ≡ 𝟘
        go (place i zero l e) = rw e (at_0 i ∙ get_or-eq_default us 𝟘 (omega arith))
        go (place i (suc zero) l e) = rw e (at_1 i ∙ get_or-eq_default vs 𝟘 (omega arith))
        go (place i (suc (suc zero)) l e) = rw e (at_2 i ∙ get_or-eq_default ws 𝟘 (omega arith))
        go (place i (suc (suc (suc j))) l e) = absurd (omega arith)
        go (gap d) = at_gap n d

  pub coefficient-derivative_x : (n : ℕ) → coefficient C n (derivative_x C) ≡ get_or (vector_x C) n 𝟘
  unfolding derivative_x
  coefficient-derivative_x = go
    where
      us : List Car
      us = C.c1 ∷ twice k C.c3 ∷ thrice k C.c6 ∷ four_times k C.a0 ∷ []

      vs : List Car
      vs = C.c4 ∷ twice k C.c7 ∷ []

      ws : List Car
      ws = C.c8 ∷ []

      go : (n : ℕ) → coefficient C n (listed us vs ws) ≡ get_or (vector_x C) n 𝟘
      go zero = at_0 us vs ws 0
      go (suc zero) = at_gap us vs ws 1 (inl refl)
      go (suc (suc zero)) = at_gap us vs ws 2 (inr (inl refl))
      go (suc (suc (suc zero))) = at_0 us vs ws 1
      go (suc (suc (suc (suc zero)))) = at_1 us vs ws 0
      go (suc (suc (suc (suc (suc zero))))) = at_gap us vs ws 5 (inr (inr refl))
      go (suc (suc (suc (suc (suc (suc zero)))))) = at_0 us vs ws 2
      go (suc (suc (suc (suc (suc (suc (suc zero))))))) = at_1 us vs ws 1
      go (suc (suc (suc (suc (suc (suc (suc (suc zero)))))))) = at_2 us vs ws 0
      go (suc (suc (suc (suc (suc (suc (suc (suc (suc zero))))))))) = at_0 us vs ws 3
      go (suc (suc (suc (suc (suc (suc (suc (suc (suc (suc n)))))))))) = at_high us vs ws _ (omega arith) (omega arith) (omega arith)

  pub coefficient-derivative_y : (n : ℕ) → coefficient C n (derivative_y C) ≡ get_or (vector_y C) n 𝟘
  unfolding derivative_y
  coefficient-derivative_y = go
    where
      us : List Car
      us = C.c2 ∷ C.c4 ∷ C.c7 ∷ []

      vs : List Car
      vs = twice k C.c5 ∷ twice k C.c8 ∷ []

      ws : List Car
      ws = thrice k 𝟙 ∷ []

      go : (n : ℕ) → coefficient C n (listed us vs ws) ≡ get_or (vector_y C) n 𝟘
      go zero = at_0 us vs ws 0
      go (suc zero) = at_gap us vs ws 1 (inl refl)
      go (suc (suc zero)) = at_gap us vs ws 2 (inr (inl refl))
      go (suc (suc (suc zero))) = at_0 us vs ws 1
      go (suc (suc (suc (suc zero)))) = at_1 us vs ws 0
      go (suc (suc (suc (suc (suc zero))))) = at_gap us vs ws 5 (inr (inr refl))
      go (suc (suc (suc (suc (suc (suc zero)))))) = at_0 us vs ws 2
      go (suc (suc (suc (suc (suc (suc (suc zero))))))) = at_1 us vs ws 1
      go (suc (suc (suc (suc (suc (suc (suc (suc zero)))))))) = at_2 us vs ws 0
      go (suc (suc (suc (suc (suc (suc (suc (suc (suc n))))))))) = at_high us vs ws _ (omega arith) (omega arith) (omega arith)
