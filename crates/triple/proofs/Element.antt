-- The elements of the ring that vectors stand for: their coefficients and their poles.
--   x_is, y_is             x and y are the monomials of pole numbers 3 and 4
--   constant_in, x_to_in   constants and powers of x are polynomials in x
--   coefficient-zero       where a vector has the number 0, its element has the coefficient zero
--   lead-pole              a place with a nonzero number is a pole number
--   element-below          a vector below n is an element below n
--   element-zero           a vector of zeros is zero
--   element-pole                   the lead of the element is at m if v is below m + 1 and v[m] is not 0
--   present-monic          a member that is present is monic
use mathlib.Core.Path.{◌≡◌, sym, ◌∙◌, ap, subst}
use mathlib.Core.List.{List}
use Prim.Native.Nat.{ℕ, zero, suc, ◌<◌}
use native.Mathlib.Omega.{arith}
use Rattle.algebra.proofs.Laws as L
use Rattle.field.specs.Residue.{Z, el}
use Rattle.field.proofs.Element.{el-zero, el-one, el_pos}
use Rattle.prime_field.specs.Field.{F}
use Rattle.ideal.specs.Poles.{IsPole, HasPole, Monic}
use Rattle.ideal.proofs.Span.{InX, inx_constant, inx_x, inx_one}
use Rattle.curve.specs.Curve.{Curve, x, y, constant}
use Rattle.curve.specs.Sequence.{coefficient}
use Rattle.curve.specs.Monomial.{power, monomial, mono}
use Rattle.curve.proofs.Filtration.{coefficient-below}
use Rattle.poles.specs.Poles.{poles}
use Rattle.curve.proofs.Poles.{below-constant}
use Rattle.poles.proofs.Monic.{coefficient-has_pole, coefficient-monic}
use Rattle.vector.specs.Vector.{Vec, Top, at, element, x_to}
use Rattle.vector.proofs.Loop.{gap-zero}
use Rattle.vector.proofs.Element.{element-coefficient}
use Rattle.triple.specs.Setting.{Setting, ring, poles_of}
use Rattle.triple.specs.Triple.{Present}

module _ {p : ℕ} (S : Setting p) where
  pub x_is : (poles_of S).mono 3 ≡ x S.curve
  unfolding poles mono monomial power
  x_is = ap (λ t. (ring S).mul t (ring S).one) ((ring S).mul_one _) ∙ (ring S).mul_one _

  pub y_is : (poles_of S).mono 4 ≡ y S.curve
  unfolding poles mono monomial power
  y_is = L.one-mul (ring S) _ ∙ (ring S).mul_one _

  pub constant_in : (c : (Z p).Car) → InX (poles_of S) (constant S.curve c)
  unfolding poles
  constant_in c = inx_constant (poles_of S) (below-constant S.curve c)

  pub x_to_in : (n : ℕ) → InX (poles_of S) (x_to p S.curve n)
  unfolding power
  x_to_in zero = inx_one (poles_of S)
  x_to_in (suc n) = subst (λ t. InX (poles_of S) ((ring S).mul t (x_to p S.curve n))) x_is (inx_x (poles_of S) (x_to_in n))

pub lead-pole : {p : ℕ} {v : List ℕ} → Vec p v → (n : ℕ) → 0 < at v n → IsPole n
lead-pole h n l g = omega (arith, gap-zero h n g)

module _ {p : ℕ} (C : Curve (Z p)) {v : List ℕ} (h : Vec p v) where
  pub coefficient-zero : (n : ℕ) → at v n ≡ 0 → coefficient C n (element p C v) ≡ (Z p).zero
  coefficient-zero n e = element-coefficient p C h n ∙ ap (el p) e ∙ el-zero p

module _ {p : ℕ} (S : Setting p) {v : List ℕ} (h : Vec p v) where
  pub element-below : {n : ℕ} → Top v n → (poles_of S).Below n (element p S.curve v)
  unfolding poles
  element-below {n} t = coefficient-below S.curve n _ (λ m l. coefficient-zero S.curve h m (t m l))

  pub element-zero : Top v 0 → element p S.curve v ≡ (ring S).zero
  element-zero t = (poles_of S).below_none (element-below t)

  pub element-pole : {m : ℕ} → Top v (suc m) → 0 < at v m → HasPole (poles_of S) (element p S.curve v) m
  element-pole {m} t l =
      coefficient-has_pole (F p S.prime) S.curve S.nonzero
      (λ e. el_pos p (at v m) l (h.below m) (sym (element-coefficient p S.curve h m) ∙ e)) (λ n u. coefficient-zero S.curve h n (t n u))

  pub present-monic : {j d : ℕ} → Present v j d → Monic (poles_of S) (element p S.curve v) d
  present-monic {j} {d} q =
      coefficient-monic (F p S.prime) S.curve S.nonzero (lead-pole h d (omega (arith, q.monic)))
      (element-coefficient p S.curve h d ∙ ap (el p) q.monic ∙ el-one p) (λ n l. coefficient-zero S.curve h n (q.top n l))
