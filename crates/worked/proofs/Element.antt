-- Expressions in x and y and the elements of the coordinate ring that they stand for.
--   only_x e           the test that y is not in e; inx_sound: then e is a polynomial in x
--   rows r0 r1 r2      the expression r0(x) + r1(x)·y + r2(x)·y², the coefficients listed from the constant one on
--   rows_parts         it stands for the element of these parts
--   nonzero p n e      the test that e is not zero: some coefficient of its normal form is not; nonzero_sound
--   by_x n, by_y n     the normal forms of Fx and Fy; by_x-is, by_y-is
use mathlib.Core.Path.{◌≡◌, refl, sym, ◌∙◌, ap, ap₂, subst}
use mathlib.Core.Bool.{Bool, true, false}
use mathlib.Core.Logic.{◌⊎◌, inl, inr}
use mathlib.Core.List.{List, [], ◌∷◌}
use Prim.Native.Nat.{ℕ, zero, suc, pred, ◌+◌, ◌*◌, ◌%◌, ◌<◌}
use native.Mathlib.Omega.{arith}
use native.Mathlib.Nat.{zero-mod}
use lib.Dec.{T, ltb, ltb→lt}
use lib.ListN.{get_or}
use Rattle.algebra.specs.Ring.{CommRing}
use Rattle.algebra.proofs.Laws as L
use Rattle.algebra.proofs.Norm.{E, var, num, nil, unit, sum, prod, opp, pow, H, z, con, cons}
use Rattle.algebra.proofs.Test.{both, both_left, both_right, either, of_either}
use Rattle.algebra.proofs.Sound.{number, raise}
use Rattle.algebra.proofs.Solve.{◌⊞◌, ◌⊠◌}
use Rattle.prime.specs.Prime.{Prime}
use Rattle.field.specs.Residue.{Z, el}
use Rattle.field.proofs.Element.{el-zero, el-one, el-add, el_mod_same}
use Rattle.prime_field.specs.Field as field
use Rattle.polynomial.specs.Poly.{Poly, coef}
use Rattle.ideal.specs.Poles.{Poles}
use Rattle.ideal.proofs.Degree.{one-pole, neg-one-constant}
use Rattle.ideal.proofs.Span.{InX, nought, inx_sum, inx_scale, inx_x, inx_constant, inx_mul, inx_one}
use Rattle.curve.specs.Curve as K
use Rattle.curve.specs.Curve.{Curve, Coordinate, in_x, ascending, at}
use Rattle.curve.proofs.Coefficient.{at_zero}
use Rattle.curve.proofs.Equation.{in_x-ascending, in_x-none}
use Rattle.poles.specs.Poles.{poles}
use Rattle.nonsingular.specs.Normal.{of_parts}
use Rattle.nonsingular.specs.Derivative.{twice, thrice, four_times, derivative_x, derivative_y}
use Rattle.nonsingular.proofs.Quotient.{part_0, part_1, part_2, at-of_parts}
use Rattle.nonsingular.proofs.Derivative.{coef-ascending}
use Rattle.divisor.proofs.Monomials.{mono-x}
use Rattle.divisor.proofs.Members.{poles-mono}
use Rattle.worked.proofs.Vanish.{x, y, coefficients-of, at_xy, constant_number, Division, divide, agree, agree_sound}

abbrev pub only_x : E → Bool
only_x (var zero) = false
only_x (var (suc zero)) = true
only_x (var (suc (suc i))) = false
only_x (num m) = true
only_x nil = true
only_x unit = true
only_x (sum a b) = both (only_x a) (only_x b)
only_x (prod a b) = both (only_x a) (only_x b)
only_x (opp a) = only_x a
only_x (pow a m) = only_x a

abbrev row : List ℕ → E
row [] = nil
row (a ∷ r) = num a ⊞ x ⊠ row r

abbrev pub rows : (r0 r1 r2 : List ℕ) → E
rows r0 r1 r2 = row r0 ⊞ row r1 ⊠ y ⊞ row r2 ⊠ (y ⊠ y)

-- some number of r is no multiple of p
abbrev some : ℕ → List ℕ → Bool
some p [] = false
some p (a ∷ r) = either (ltb 0 (a % p)) (some p r)

-- the coefficients of a normal form in x; for the constant a − b the number a + (p − 1)·b
abbrev first : ℕ → H → ℕ
first p z = 0
first p (con a b) = a + pred p * b
first p (cons h t) = first p h

abbrev listed : ℕ → H → List ℕ
listed p z = []
listed p (con a b) = first p (con a b) ∷ []
listed p (cons h t) = first p h ∷ listed p t

abbrev nonzero-rows : ℕ → (ℕ → ℕ) → E → (r0 r1 r2 : List ℕ) → Bool
nonzero-rows p n e r0 r1 r2 = both (agree p n e (rows r0 r1 r2)) (either (some p r0) (either (some p r1) (some p r2)))

abbrev nonzero-rest : ℕ → (ℕ → ℕ) → E → Division → Bool
nonzero-rest p n e d = nonzero-rows p n e (listed p d.r0) (listed p d.r1) (listed p d.r2)

abbrev pub nonzero : ℕ → (ℕ → ℕ) → E → Bool
nonzero p n e = nonzero-rest p n e (divide n e)

-- c1 + 2c3·x + 3c6·x² + 4x³ + (c4 + 2c7·x)·y + c8·y²
abbrev pub by_x : (ℕ → ℕ) → E
by_x n = rows (n 1 ∷ (n 3 + n 3) ∷ (n 6 + n 6 + n 6) ∷ 4 ∷ []) (n 4 ∷ (n 7 + n 7) ∷ []) (n 8 ∷ [])

-- c2 + c4·x + c7·x² + (2c5 + 2c8·x)·y + 3y²
abbrev pub by_y : (ℕ → ℕ) → E
by_y n = rows (n 2 ∷ n 4 ∷ n 7 ∷ []) ((n 5 + n 5) ∷ (n 8 + n 8) ∷ []) (3 ∷ [])

module _ (p : ℕ) (n : ℕ → ℕ) where
  abbrev C : Curve (Z p)
  C = coefficients-of p n

  abbrev R : CommRing
  R = Coordinate C

  module _ (h : Prime p) where
    abbrev P : Poles (Coordinate C)
    P = poles (field.F p h) C (field.F p h).nontrivial

    number-constant : (m : ℕ) → P.Below 1 (number R m)
    number-constant zero = P.below_zero 1
    number-constant (suc m) = P.below_add (one-pole P).upper (number-constant m)

    inx_x_is : InX P (K.x C)
    inx_x_is =
        subst (InX P) (R.mul_one (P.mono 3) ∙ poles-mono (field.F p h) C (field.F p h).nontrivial 3 ∙ mono-x C) (inx_x P (inx_one P))

    inx_neg : {a : R.Car} → InX P a → InX P (R.neg a)
    inx_neg {a} i = subst (InX P) (L.neg-mul R R.one a ∙ ap R.neg (L.one-mul R a)) (inx_scale P (neg-one-constant P) i)

    inx_raise : (a : R.Car) (m : ℕ) → InX P a → InX P (raise R a m)
    inx_raise a zero i = inx_one P
    inx_raise a (suc m) i = inx_mul P i (inx_raise a m i)

    pub inx_sound : (e : E) → T (only_x e) → InX (poles (field.F p h) (coefficients-of p n) (field.F p h).nontrivial) (at_xy p n e)
    inx_sound (var zero) t = absurd t
    inx_sound (var (suc zero)) t = inx_x_is
    inx_sound (var (suc (suc i))) t = absurd t
    inx_sound (num m) t = inx_constant P (number-constant m)
    inx_sound nil t = nought refl
    inx_sound unit t = inx_one P
    inx_sound (sum a b) t = inx_sum P (inx_sound a (both_left (only_x a) (only_x b) t)) (inx_sound b (both_right (only_x a) (only_x b) t))
    inx_sound (prod a b) t = inx_mul P (inx_sound a (both_left (only_x a) (only_x b) t)) (inx_sound b (both_right (only_x a) (only_x b) t))
    inx_sound (opp a) t = inx_neg (inx_sound a t)
    inx_sound (pow a m) t = inx_raise (at_xy p n a) m (inx_sound a t)

  abbrev residues : List ℕ → List (Z p).Car
  residues [] = []
  residues (a ∷ r) = el p a ∷ residues r

  abbrev poly : List ℕ → (Poly (Z p)).Car
  poly r = ascending (Z p) (residues r)

  row_is : (r : List ℕ) → in_x C (poly r) ≡ at_xy p n (row r)
  row_is [] = in_x-none C
  row_is (a ∷ r) = in_x-ascending C _ _ ∙ ap₂ (λ u v. R.add u (R.mul (K.x C) v)) (constant_number p C a) (row_is r)

  pub rows_parts : (r0 r1 r2 : List ℕ) → at_xy p n (rows r0 r1 r2) ≡ of_parts C (poly r0) (poly r1) (poly r2)
  rows_parts r0 r1 r2 =
      sym (λ i. R.add (R.add (row_is r0 i) (R.mul (row_is r1 i) (K.y C))) (R.mul (row_is r2 i) (R.mul (K.y C) (K.y C))))
      ∙ at-of_parts C (poly r0) (poly r1) (poly r2)

  some_sound : 0 < p → (r : List ℕ) → T (some p r) → ((i : ℕ) → get_or (residues r) i (Z p).zero ≡ (Z p).zero) → ⊥
  some_sound pos [] t f = t
  some_sound pos (a ∷ r) t f = go (of_either (ltb 0 (a % p)) (some p r) t) (λ s. some_sound pos r s (λ i. f (suc i)))
    where
      go : T (ltb 0 (a % p)) ⊎ T (some p r) → (T (some p r) → ⊥) → ⊥
      go (inl s) rest = omega (arith, ltb→lt 0 (a % p) s, el_mod_same p a 0 pos (f 0 ∙ sym (el-zero p)), zero-mod p)
      go (inr s) rest = rest s

  module _ (pos : 0 < p) (r0 r1 r2 : List ℕ) (e : at_xy p n (rows r0 r1 r2) ≡ R.zero) where
    at_rows : (i j : ℕ) → at C i j (of_parts C (poly r0) (poly r1) (poly r2)) ≡ (Z p).zero
    at_rows i j = ap (at C i j) (sym (rows_parts r0 r1 r2) ∙ e) ∙ at_zero C i j

    rows-zero : T (some p r0) ⊎ T (either (some p r1) (some p r2)) → ⊥
    unfolding at
    rows-zero (inl t) =
        some_sound pos r0 t (λ i. sym (ap (λ f. coef (Z p) f i) (part_0 C _ _ _) ∙ coef-ascending (Z p) (residues r0) i) ∙ at_rows i 0)
    rows-zero (inr t) = go (of_either (some p r1) (some p r2) t)
      where
        go : T (some p r1) ⊎ T (some p r2) → ⊥
        go (inl s) =
            some_sound pos r1 s (λ i. sym (ap (λ f. coef (Z p) f i) (part_1 C _ _ _) ∙ coef-ascending (Z p) (residues r1) i) ∙ at_rows i 1)
        go (inr s) =
            some_sound pos r2 s (λ i. sym (ap (λ f. coef (Z p) f i) (part_2 C _ _ _) ∙ coef-ascending (Z p) (residues r2) i) ∙ at_rows i 2)

  rows_sound : 0 < p → (e : E) (r0 r1 r2 : List ℕ) → T (nonzero-rows p n e r0 r1 r2) → ¬ (at_xy p n e ≡ R.zero)
  rows_sound pos e r0 r1 r2 t q =
      rows-zero pos r0 r1 r2 (sym (agree_sound p n e (rows r0 r1 r2) (both_left (agree p n e (rows r0 r1 r2)) _ t)) ∙ q)
      (of_either (some p r0) _ (both_right (agree p n e (rows r0 r1 r2)) _ t))

  pub nonzero_sound : 0 < p → (e : E) → T (nonzero p n e) → ¬ (at_xy p n e ≡ (Coordinate (coefficients-of p n)).zero)
  nonzero_sound pos e t =
      rows_sound pos e (listed p (divide n e).r0) (listed p (divide n e).r1) (listed p (divide n e).r2) t

  two-of : (m : ℕ) → el p (m + m) ≡ twice (Z p) (el p m)
  two-of m = el-add p m m

  three-of : (m : ℕ) → el p (m + m + m) ≡ thrice (Z p) (el p m)
  three-of m = el-add p (m + m) m ∙ ap (λ u. (Z p).add u (el p m)) (two-of m)

  two : el p 2 ≡ twice (Z p) (Z p).one
  two = two-of 1 ∙ ap (twice (Z p)) (el-one p)

  three : el p 3 ≡ thrice (Z p) (Z p).one
  three = three-of 1 ∙ ap (thrice (Z p)) (el-one p)

  four : el p 4 ≡ four_times (Z p) (Z p).one
  four = el-add p 2 2 ∙ ap₂ (Z p).add two two

  pub by_x-is : at_xy p n (by_x n) ≡ derivative_x (coefficients-of p n)
  unfolding derivative_x
  by_x-is =
      rows_parts (n 1 ∷ (n 3 + n 3) ∷ (n 6 + n 6 + n 6) ∷ 4 ∷ []) (n 4 ∷ (n 7 + n 7) ∷ []) (n 8 ∷ [])
      ∙ (λ i.
      of_parts C (ascending (Z p) (el p (n 1) ∷ two-of (n 3) i ∷ three-of (n 6) i ∷ four i ∷ []))
      (ascending (Z p) (el p (n 4) ∷ two-of (n 7) i ∷ []))
      (ascending (Z p) (el p (n 8) ∷ [])))

  pub by_y-is : at_xy p n (by_y n) ≡ derivative_y (coefficients-of p n)
  unfolding derivative_y
  by_y-is =
      rows_parts (n 2 ∷ n 4 ∷ n 7 ∷ []) ((n 5 + n 5) ∷ (n 8 + n 8) ∷ []) (3 ∷ [])
      ∙ (λ i.
      of_parts C (ascending (Z p) (el p (n 2) ∷ el p (n 4) ∷ el p (n 7) ∷ []))
      (ascending (Z p) (two-of (n 5) i ∷ two-of (n 8) i ∷ []))
      (ascending (Z p) (three i ∷ [])))
