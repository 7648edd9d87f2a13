-- Vectors whose numbers are listed, followed by zeros; the vectors of y³ and of the derivatives.
--   Match p ns xs          the residues of the numbers ns are xs
--   padded_top, padded_below, padded_res   the list ns followed by zeros: from its length on it is 0; its numbers; its residues
--   weigh_unit             a weighted sum over a sequence with the one entry 1
--   vector-cube C          the coefficients of y³ by pole number
--   cube-at                they are
--   thrice-of              what thrice returns
--   cube-of, derivative_x-of, derivative_y-of      what cube, derivative_x and derivative_y return
use mathlib.Core.Path.{◌≡◌, refl, sym, ◌∙◌, ap, ap₂, subst}
use mathlib.Core.List.{List, [], ◌∷◌, ◌++◌}
use Prim.Native.Nat.{ℕ, zero, suc, ◌+◌, ◌-◌, ◌<◌, ◌≤◌}
use native.Mathlib.Omega.{arith}
use lib.ListN.{length, get_or, replicate, get_or-eq_default}
use lib.Seq.{get_or-append-add}
use Rattle.algebra.specs.Ring.{CommRing}
use Rattle.algebra.proofs.Laws as L
use Rattle.field.specs.Residue.{Z, el}
use Rattle.field.proofs.Element.{el-zero, el-one}
use Rattle.field.specs.Contract.{Is}
use Rattle.ideal.proofs.Every.{Every}
use Rattle.curve.specs.Curve.{Curve, Coordinate, y}
use Rattle.curve.specs.Curve as K
use Rattle.curve.proofs.Back.{back_low, back-high, weigh, weigh_from}
use Rattle.curve.proofs.Coefficient.{at_ext, at-one_0, at-one-x, at-one-y, at-y_0, at-y_1, at-y_2}
use Rattle.curve.specs.Pole.{pole}
use Rattle.curve.specs.Sequence.{coefficient}
use Rattle.curve.proofs.Term.{coefficient_ext}
use Rattle.curve.proofs.Monomial.{at-y_0_straight, at-y_1_straight, at-y_2_straight}
use Rattle.nonsingular.specs.Derivative.{twice, thrice, vector_x, vector_y, derivative_x, derivative_y}
use Rattle.nonsingular.proofs.Derivative.{coefficient-derivative_x, coefficient-derivative_y}
use Rattle.vector.specs.Vector.{Vec, Top, at, res, element}
use Rattle.vector.proofs.Loop.{zeros-at}
use Rattle.vector.proofs.Element.{element-at, element-coefficient}
use Rattle.equation.specs.declared.Equation.{Equation}
use Rattle.equation.specs.Equation.{curve_of, Coefficients, IsCube, DerivativeX, DerivativeY}

abbrev pub Match : (p : ℕ) → List ℕ → List (Z p).Car → Type 0
Match p [] [] = Unit
Match p [] (x ∷ xs) = ⊥
Match p (a ∷ ns) [] = ⊥
Match p (a ∷ ns) (x ∷ xs) = (el p a ≡ x) × Match p ns xs

pub padded_top : (ns : List ℕ) (k : ℕ) → Top (ns ++ replicate k 0) (length ns)
padded_top ns k i l = ap (at (ns ++ replicate k 0)) {x = i} {y = length ns + (i - length ns)} (omega arith) ∙ get_or-append-add ns (replicate k 0) (i - length ns) 0 ∙ zeros-at k (i - length ns)

pub padded_below : (p : ℕ) (ns : List ℕ) (k : ℕ) → 0 < p → Every (λ a. a < p) ns → (n : ℕ) → at (ns ++ replicate k 0) n < p
padded_below p [] k h _ n = subst (λ a. a < p) (sym (zeros-at k n)) h
padded_below p (a ∷ ns) k h (q, qs) zero = q
padded_below p (a ∷ ns) k h (q, qs) (suc n) = padded_below p ns k h qs n

pub padded_res : (p : ℕ) (ns : List ℕ) (xs : List (Z p).Car) (k : ℕ) → Match p ns xs → (n : ℕ) → res p (ns ++ replicate k 0) n ≡ get_or xs n (Z p).zero
padded_res p [] [] k _ n = ap (el p) (zeros-at k n) ∙ el-zero p
padded_res p [] (x ∷ xs) k m n = absurd m
padded_res p (a ∷ ns) [] k m n = absurd m
padded_res p (a ∷ ns) (x ∷ xs) k (e, es) zero = e
padded_res p (a ∷ ns) (x ∷ xs) k (e, es) (suc n) = padded_res p ns xs k es n

-- f is 1 at 0 and 0 elsewhere
module _ (k : CommRing) (f : ℕ → k.Car) (first : f 0 ≡ k.one) (next : (n : ℕ) → f (suc n) ≡ k.zero) where
  weigh_low : (d : ℕ) (cs : List k.Car) (n : ℕ) → n < d → weigh_from k d cs f n ≡ k.zero
  weigh_low d [] n h = refl
  weigh_low d (c ∷ cs) n h = ap₂ (λ u v. k.add (k.mul c u) v) (back_low k d f n h) (weigh_low (suc d) cs n (omega arith)) ∙ k.add_zero _ ∙ L.mul-zero k c

  weigh_at : (d : ℕ) (cs : List k.Car) (i : ℕ) → weigh_from k d cs f (d + i) ≡ get_or cs i k.zero
  weigh_at d [] i = refl
  weigh_at d (c ∷ cs) zero = ap₂ (λ u v. k.add (k.mul c u) v) (back-high k d f 0 ∙ first) (weigh_low (suc d) cs (d + 0) (omega arith)) ∙ k.add_zero _ ∙ k.mul_one c
  weigh_at d (c ∷ cs) (suc i) =
      ap₂ (λ u v. k.add (k.mul c u) v) (back-high k d f (suc i) ∙ next i) (ap (weigh_from k (suc d) cs f) {x = d + suc i} {y = suc d + i} (omega arith) ∙ weigh_at (suc d) cs i)
      ∙ ap (λ u. k.add u (get_or cs i k.zero)) (L.mul-zero k c)
      ∙ L.zero-add k _

  pub weigh_unit : (cs : List k.Car) (i : ℕ) → weigh k cs f i ≡ get_or cs i k.zero
  weigh_unit cs i = ap (weigh k cs f) {x = i} {y = 0 + i} (omega arith) ∙ weigh_at 0 cs i

module _ {k : CommRing} (C : Curve k) where
  open k use {Car, zero as 𝟘, one as 𝟙, neg as -ₖ◌}
  open Coordinate C use {Car as El, one as 𝟏, mul as ◌⊗◌}

  infixl 70 ◌⊗◌
  infix 80 -ₖ◌
  abbrev pub vector-cube : List Car
  vector-cube =
      -ₖ C.c0 ∷ 𝟘 ∷ 𝟘 ∷ -ₖ C.c1 ∷ -ₖ C.c2 ∷ 𝟘 ∷ -ₖ C.c3 ∷ -ₖ C.c4 ∷ -ₖ C.c5 ∷ -ₖ C.c6 ∷ -ₖ C.c7 ∷ -ₖ C.c8
      ∷ -ₖ C.a0 ∷ []

  flat_one : (i : ℕ) → K.at C i 2 𝟏 ≡ 𝟘
  flat_one i = at-one-y C i 1

  flat_y : (i : ℕ) → K.at C i 2 (y C ⊗ 𝟏) ≡ 𝟘
  flat_y i = at-y_2_straight C 𝟏 flat_one i ∙ at-one-y C i 0

  abbrev square : El
  square = y C ⊗ (y C ⊗ 𝟏)

  square_0 : (i : ℕ) → K.at C i 0 square ≡ 𝟘
  square_0 i = at-y_0_straight C (y C ⊗ 𝟏) flat_y i

  square_1 : (i : ℕ) → K.at C i 1 square ≡ 𝟘
  square_1 i = at-y_1_straight C (y C ⊗ 𝟏) flat_y i ∙ at-y_0_straight C 𝟏 flat_one i

  square_2 : (i : ℕ) → K.at C i 2 square ≡ K.at C i 0 𝟏
  square_2 i = at-y_2_straight C (y C ⊗ 𝟏) flat_y i ∙ at-y_1_straight C 𝟏 flat_one i

  weighed : (cs : List Car) (i : ℕ) → weigh k cs (λ n. K.at C n 2 square) i ≡ get_or cs i 𝟘
  weighed = weigh_unit k (λ n. K.at C n 2 square) (square_2 0 ∙ at-one_0 C) (λ n. square_2 (suc n) ∙ at-one-x C n)

  cube_0 : (i : ℕ) → K.at C i 0 (y C ⊗ square) ≡ -ₖ get_or (C.c0 ∷ C.c1 ∷ C.c3 ∷ C.c6 ∷ C.a0 ∷ []) i 𝟘
  cube_0 i = at-y_0 C i square ∙ ap -ₖ◌ (weighed (C.c0 ∷ C.c1 ∷ C.c3 ∷ C.c6 ∷ C.a0 ∷ []) i)

  cube_1 : (i : ℕ) → K.at C i 1 (y C ⊗ square) ≡ -ₖ get_or (C.c2 ∷ C.c4 ∷ C.c7 ∷ []) i 𝟘
  cube_1 i = at-y_1 C i square ∙ ap₂ (λ u v. k.add u (-ₖ v)) (square_0 i) (weighed (C.c2 ∷ C.c4 ∷ C.c7 ∷ []) i) ∙ L.zero-add k _

  cube_2 : (i : ℕ) → K.at C i 2 (y C ⊗ square) ≡ -ₖ get_or (C.c5 ∷ C.c8 ∷ []) i 𝟘
  cube_2 i = at-y_2 C i square ∙ ap₂ (λ u v. k.add u (-ₖ v)) (square_1 i) (weighed (C.c5 ∷ C.c8 ∷ []) i) ∙ L.zero-add k _

  past : (n : ℕ) → 13 ≤ n → get_or vector-cube n 𝟘 ≡ -ₖ 𝟘
  past n h = get_or-eq_default vector-cube 𝟘 h ∙ sym (L.neg-zero k)

  cube-listed : (i j : ℕ) → j ≤ 2 → get_or vector-cube (pole i j) 𝟘 ≡ K.at C i j (y C ⊗ square)
  cube-listed zero zero l = sym (cube_0 0)
  cube-listed (suc zero) zero l = sym (cube_0 1)
  cube-listed (suc (suc zero)) zero l = sym (cube_0 2)
  cube-listed (suc (suc (suc zero))) zero l = sym (cube_0 3)
  cube-listed (suc (suc (suc (suc zero)))) zero l = sym (cube_0 4)
  cube-listed (suc (suc (suc (suc (suc i))))) zero l = past (pole (suc (suc (suc (suc (suc i))))) 0) (omega arith) ∙ sym (cube_0 (suc (suc (suc (suc (suc i))))))
  cube-listed zero (suc zero) l = sym (cube_1 0)
  cube-listed (suc zero) (suc zero) l = sym (cube_1 1)
  cube-listed (suc (suc zero)) (suc zero) l = sym (cube_1 2)
  cube-listed (suc (suc (suc i))) (suc zero) l = past (pole (suc (suc (suc i))) 1) (omega arith) ∙ sym (cube_1 (suc (suc (suc i))))
  cube-listed zero (suc (suc zero)) l = sym (cube_2 0)
  cube-listed (suc zero) (suc (suc zero)) l = sym (cube_2 1)
  cube-listed (suc (suc i)) (suc (suc zero)) l = past (pole (suc (suc i)) 2) (omega arith) ∙ sym (cube_2 (suc (suc i)))
  cube-listed i (suc (suc (suc j))) l = absurd (omega arith)

  once : y C ⊗ (y C ⊗ 𝟏) ≡ y C ⊗ y C
  once = ap (λ u. y C ⊗ u) ((Coordinate C).mul_one (y C))

  pub cube-at : (i j : ℕ) → j ≤ 2 → get_or vector-cube (pole i j) 𝟘 ≡ K.at C i j (y C ⊗ (y C ⊗ y C))
  cube-at i j l = cube-listed i j l ∙ ap (λ u. K.at C i j (y C ⊗ u)) once

-- 2a + a
pub thrice-of : {p d r : ℕ} (a : ℕ) → Is p d (twice (Z p) (el p a)) → Is p r ((Z p).add (el p d) (el p a)) → Is p r (thrice (Z p) (el p a))
thrice-of {p} a i j = record { below = j.below; is = j.is ∙ ap (λ u. (Z p).add u (el p a)) i.is }

-- the element of a vector with the coefficients of g
element-is : {p : ℕ} (C : Curve (Z p)) {v : List ℕ} (g : (Coordinate C).Car) → Vec p v → ((n : ℕ) → res p v n ≡ coefficient C n g) → element p C v ≡ g
element-is {p} C g h e = coefficient_ext C (λ n. element-coefficient p C h n ∙ e n)

module _ (e : Equation) (h : Coefficients e) where
  abbrev p : ℕ
  p = e.p

  abbrev C : Curve (Z p)
  C = curve_of e

  positive : 0 < p
  positive = omega (arith, h.below_a0)

  pub cube-of :
      {v0 v3 v4 v6 v7 v8 v9 v10 v11 v12 : ℕ} → Is p v0 ((Z p).neg C.c0) → Is p v3 ((Z p).neg C.c1) → Is p v4 ((Z p).neg C.c2) →
      Is p v6 ((Z p).neg C.c3) → Is p v7 ((Z p).neg C.c4) → Is p v8 ((Z p).neg C.c5) → Is p v9 ((Z p).neg C.c6) →
      Is p v10 ((Z p).neg C.c7) → Is p v11 ((Z p).neg C.c8) → Is p v12 ((Z p).neg C.a0) →
      IsCube e ((v0 ∷ 0 ∷ 0 ∷ v3 ∷ v4 ∷ 0 ∷ v6 ∷ v7 ∷ v8 ∷ v9 ∷ v10 ∷ v11 ∷ v12 ∷ []) ++ replicate 13 0)
  cube-of {v0} {v3} {v4} {v6} {v7} {v8} {v9} {v10} {v11} {v12} i0 i3 i4 i6 i7 i8 i9 i10 i11 i12 =
      record {
        vec = vec;
        top = padded_top ns 13;
        cube = record {
          is = at_ext C
              (λ i j l. element-at p C (ns ++ replicate 13 0) i j l ∙ padded_res p ns (vector-cube C) 13 match (pole i j) ∙ cube-at C i j l);
        };
      }
    where
      ns : List ℕ
      ns = v0 ∷ 0 ∷ 0 ∷ v3 ∷ v4 ∷ 0 ∷ v6 ∷ v7 ∷ v8 ∷ v9 ∷ v10 ∷ v11 ∷ v12 ∷ []

      vec : Vec p (ns ++ replicate 13 0)
      vec =
          record {
            len = refl;
            below = padded_below p ns 13 positive (
              i0.below,
              (positive, (positive, (i3.below, (i4.below, (positive, (i6.below, (i7.below, (i8.below, (i9.below, (i10.below, (i11.below, (i12.below, tt)))))))))))),
            );
            gap_1 = refl;
            gap_2 = refl;
            gap_5 = refl;
          }

      match : Match p ns (vector-cube C)
      match = (i0.is, (el-zero p, (el-zero p, (i3.is, (i4.is, (el-zero p, (i6.is, (i7.is, (i8.is, (i9.is, (i10.is, (i11.is, (i12.is, tt)))))))))))))

  pub derivative_x-of :
      {v3 v6 v7 v v9 : ℕ} → Is p v3 (twice (Z p) C.c3) → Is p v6 (thrice (Z p) C.c6) → Is p v7 (twice (Z p) C.c7) →
      Is p v (twice (Z p) C.a0) → Is p v9 (twice (Z p) (el p v)) →
      DerivativeX e ((e.c1 ∷ 0 ∷ 0 ∷ v3 ∷ e.c4 ∷ 0 ∷ v6 ∷ v7 ∷ e.c8 ∷ v9 ∷ []) ++ replicate 16 0)
  derivative_x-of {v3} {v6} {v7} {v} {v9} i3 i6 i7 i i9 =
      record { vec = vec; top = padded_top ns 16; value = element-is C (derivative_x C) vec (λ n. padded_res p ns (vector_x C) 16 match n ∙ sym (coefficient-derivative_x C n)) }
    where
      ns : List ℕ
      ns = e.c1 ∷ 0 ∷ 0 ∷ v3 ∷ e.c4 ∷ 0 ∷ v6 ∷ v7 ∷ e.c8 ∷ v9 ∷ []

      vec : Vec p (ns ++ replicate 16 0)
      vec =
          record {
            len = refl;
            below = padded_below p ns 16 positive (
              h.below_c1,
              (positive, (positive, (i3.below, (h.below_c4, (positive, (i6.below, (i7.below, (h.below_c8, (i9.below, tt))))))))),
            );
            gap_1 = refl;
            gap_2 = refl;
            gap_5 = refl;
          }

      match : Match p ns (vector_x C)
      match = (refl, (el-zero p, (el-zero p, (i3.is, (refl, (el-zero p, (i6.is, (i7.is, (refl, (i9.is ∙ ap (twice (Z p)) i.is, tt))))))))))

  pub derivative_y-of :
      {v4 v7 v8 : ℕ} → Is p v4 (twice (Z p) C.c5) → Is p v7 (twice (Z p) C.c8) → Is p v8 (thrice (Z p) (el p 1)) →
      DerivativeY e ((e.c2 ∷ 0 ∷ 0 ∷ e.c4 ∷ v4 ∷ 0 ∷ e.c7 ∷ v7 ∷ v8 ∷ []) ++ replicate 17 0)
  derivative_y-of {v4} {v7} {v8} i4 i7 i8 =
      record { vec = vec; top = padded_top ns 17; value = element-is C (derivative_y C) vec (λ n. padded_res p ns (vector_y C) 17 match n ∙ sym (coefficient-derivative_y C n)) }
    where
      ns : List ℕ
      ns = e.c2 ∷ 0 ∷ 0 ∷ e.c4 ∷ v4 ∷ 0 ∷ e.c7 ∷ v7 ∷ v8 ∷ []

      vec : Vec p (ns ++ replicate 17 0)
      vec =
          record {
            len = refl;
            below = padded_below p ns 17 positive (h.below_c2, (positive, (positive, (h.below_c4, (i4.below, (positive, (h.below_c7, (i7.below, (i8.below, tt)))))))));
            gap_1 = refl;
            gap_2 = refl;
            gap_5 = refl;
          }

      match : Match p ns (vector_y C)
      match = (refl, (el-zero p, (el-zero p, (refl, (i4.is, (el-zero p, (refl, (i7.is, (i8.is ∙ ap (thrice (Z p)) (el-one p), tt)))))))))
