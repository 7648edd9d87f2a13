-- Identities in the coordinate ring of a curve over the residues modulo p, by computation. An expression of the ring solver in x and y
-- vanishes there if it is q·F + m·p for some expressions q and m with whole coefficients. The test finds them: it divides by F, which is a
-- monic cubic in y, and then by p. That it finds the right ones needs no proof, for the solver tries them.
--   x, y               the variables
--   coefficients-of n  the curve y³ + x⁴ + c8·xy² + … + c0 with the coefficients c0, …, c8 = n 0, …, n 8
--   at_xy e            the value of the expression e in the coordinate ring
--   constant_number    the constant m is the ring's number m
--   vanishes p n e     the test that e is zero; vanish_sound: then it is
--   agree p n e e'     the test that e and e' are equal; agree_sound
--   divide             division of a normal form by the cubic: quotient and rest
--   Division           its result
use mathlib.Core.Path.{◌≡◌, sym, ◌∙◌, ap, ap₂}
use mathlib.Core.Bool.{Bool}
use mathlib.Core.List.{[], ◌∷◌}
use Prim.Native.Nat.{ℕ, zero, suc, ◌/◌}
use native.Mathlib.Omega.{arith}
use lib.Dec.{T}
use Rattle.algebra.specs.Ring.{CommRing, ops}
use Rattle.algebra.proofs.Laws as L
use Rattle.algebra.proofs.Norm.{E, var, num, nil, unit, H, z, con, cons, plus, minus, times, norm, same, E-ops}
use Rattle.algebra.proofs.Sound.{number, value, same-value}
use Rattle.algebra.proofs.Solve.{◌⊞◌, ◌⊠◌, ⊟◌}
use Rattle.field.specs.Residue.{Z, el}
use Rattle.field.proofs.Element.{el-zero, el-one, el-add, el_self}
use Rattle.curve.specs.Curve as K
use Rattle.curve.specs.Curve.{Curve, Coordinate, constant}
use Rattle.curve.proofs.Coefficient.{constant-zero, constant-one, constant-add}
use Rattle.curve.proofs.Equation.{F-at, curve-equation}

abbrev pub y : E
y = var 0

abbrev pub x : E
x = var 1

abbrev pub coefficients-of : (p : ℕ) → (ℕ → ℕ) → Curve (Z p)
coefficients-of p n =
    record {
      a0 = (Z p).one;
      c0 = el p (n 0);
      c1 = el p (n 1);
      c2 = el p (n 2);
      c3 = el p (n 3);
      c4 = el p (n 4);
      c5 = el p (n 5);
      c6 = el p (n 6);
      c7 = el p (n 7);
      c8 = el p (n 8);
    }

abbrev F : (ℕ → ℕ) → E
F n = F-at E-ops x y unit (num (n 0)) (num (n 1)) (num (n 2)) (num (n 3)) (num (n 4)) (num (n 5)) (num (n 6)) (num (n 7)) (num (n 8))

-- a normal form in y and x is quotient·(y³ + t2·y² + t1·y + t0) + r0 + r1·y + r2·y²; the t and r are normal forms in x
pub record Division : Type 0 where
  pub quotient : H
  pub r0 : H
  pub r1 : H
  pub r2 : H

-- from the division of t to that of h + y·t
abbrev division_next : (t0 t1 t2 h : H) → Division → Division
division_next t0 t1 t2 h d =
    record {
      quotient = cons d.r2 d.quotient;
      r0 = plus h (minus (times d.r2 t0));
      r1 = plus d.r0 (minus (times d.r2 t1));
      r2 = plus d.r1 (minus (times d.r2 t2));
    }

abbrev divide_by : H → (t0 t1 t2 : H) → Division
divide_by z t0 t1 t2 = record { quotient = z; r0 = z; r1 = z; r2 = z }
divide_by (con a b) t0 t1 t2 = record { quotient = z; r0 = con a b; r1 = z; r2 = z }
divide_by (cons h t) t0 t1 t2 = division_next t0 t1 t2 h (divide_by t t0 t1 t2)

-- x, where it is the only variable
abbrev 𝕩 : E
𝕩 = var 0

abbrev pub divide : (ℕ → ℕ) → E → Division
divide n e =
    divide_by (norm e)
    (norm (num (n 0) ⊞ 𝕩 ⊠ (num (n 1) ⊞ 𝕩 ⊠ (num (n 3) ⊞ 𝕩 ⊠ (num (n 6) ⊞ 𝕩)))))
    (norm (num (n 2) ⊞ 𝕩 ⊠ (num (n 4) ⊞ 𝕩 ⊠ num (n 7))))
    (norm (num (n 5) ⊞ 𝕩 ⊠ num (n 8)))

-- a normal form divided by p, if p divides every coefficient
abbrev over : ℕ → H → H
over p z = z
over p (con a b) = con (a / p) (b / p)
over p (cons h t) = cons (over p h) (over p t)

-- the normal form over the variables i, i + 1, … as an expression
abbrev express : H → ℕ → E
express z i = nil
express (con a b) i = num a ⊞ ⊟ (num b)
express (cons h t) i = express h (suc i) ⊞ var i ⊠ express t i

-- quotient·F + (rest / p)·p
abbrev multiples : ℕ → (ℕ → ℕ) → Division → E
multiples p n d = express d.quotient 0 ⊠ F n ⊞ express (over p (cons d.r0 (cons d.r1 (cons d.r2 z)))) 0 ⊠ num p

abbrev pub vanishes : ℕ → (ℕ → ℕ) → E → Bool
vanishes p n e = same e (multiples p n (divide n e))

abbrev pub agree : ℕ → (ℕ → ℕ) → E → E → Bool
agree p n e e' = vanishes p n (e ⊞ ⊟ e')

pub constant_number : (p : ℕ) (C : Curve (Z p)) (m : ℕ) → constant C (el p m) ≡ number (Coordinate C) m
constant_number p C zero = ap (constant C) (el-zero p) ∙ constant-zero C
constant_number p C (suc m) =
    ap (λ k. constant C (el p k)) (omega arith)
    ∙ ap (constant C) (el-add p 1 m)
    ∙ constant-add C (el p 1) (el p m)
    ∙ ap₂ (Coordinate C).add (ap (constant C) (el-one p) ∙ constant-one C) (constant_number p C m)

module _ (p : ℕ) (n : ℕ → ℕ) where
  abbrev C : Curve (Z p)
  C = coefficients-of p n

  abbrev R : CommRing
  R = Coordinate C

  abbrev pub at_xy : E → (Coordinate (coefficients-of p n)).Car
  at_xy e = value (Coordinate (coefficients-of p n)) e (K.y (coefficients-of p n) ∷ K.x (coefficients-of p n) ∷ [])

  c : (m : ℕ) → constant C (el p m) ≡ number R m
  c m = constant_number p C m

  on_curve : at_xy (F n) ≡ R.zero
  on_curve =
      sym (λ i.
      F-at (ops R) (K.x C) (K.y C) (constant-one C i) (c (n 0) i) (c (n 1) i) (c (n 2) i) (c (n 3) i) (c (n 4) i) (c (n 5) i) (c (n 6) i)
      (c (n 7) i) (c (n 8) i))
      ∙ curve-equation C

  p_zero : number R p ≡ R.zero
  p_zero = sym (c p) ∙ ap (constant C) (el_self p) ∙ constant-zero C

  both_zero : (q m a b : R.Car) → a ≡ R.zero → b ≡ R.zero → R.add (R.mul q a) (R.mul m b) ≡ R.zero
  both_zero q m a b e e' = ap₂ R.add (ap (R.mul q) e ∙ L.mul-zero R q) (ap (R.mul m) e' ∙ L.mul-zero R m) ∙ R.add_zero R.zero

  pub vanish_sound : (e : E) → T (vanishes p n e) → at_xy e ≡ (Coordinate (coefficients-of p n)).zero
  vanish_sound e t =
      same-value R e (multiples p n (divide n e)) t (K.y C ∷ K.x C ∷ [])
      ∙ both_zero _ _ (at_xy (F n)) (number R p) on_curve p_zero

  pub agree_sound : (e e' : E) → T (agree p n e e') → at_xy e ≡ at_xy e'
  agree_sound e e' t = L.sub-zero→eq R (at_xy e) (at_xy e') (vanish_sound (e ⊞ ⊟ e') t)
