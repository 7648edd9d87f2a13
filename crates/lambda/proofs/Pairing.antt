-- What value and value_at compute: Λ(x^(s/3)·v) and Λ(mono n·x^(h/3)·g), for the functional Λ with the values lam.
--   valued_shifted, valued_plain       the sum from s, and from c, is the functional's value
--   value_asked                        what value_at asks of value
--   value_at                           the y-multiples of g, shifted, are the products of mono n·x^(h/3) with g
--   value_at-none                      … with no shift
use mathlib.Core.Path.{◌≡◌, sym, ◌∙◌, ap}
use mathlib.Core.List.{List}
use mathlib.Core.Logic.{inl, inr}
use Prim.Native.Nat.{ℕ, ◌+◌, ◌*◌, ◌-◌, ◌/◌, ◌%◌, ◌≤◌}
use native.Mathlib.Omega.{arith}
use Rattle.algebra.proofs.Laws as L
use Rattle.field.specs.Residue.{Z, el}
use Rattle.field.specs.Contract.{Is}
use Rattle.ideal.specs.Poles.{largest_gap}
use Rattle.curve.specs.Curve.{Curve, Coordinate}
use Rattle.curve.specs.Monomial.{power, mono}
use Rattle.vector.specs.Vector.{row, x_to}
use Rattle.vector.specs.Contract.{pairing}
use Rattle.terms.specs.Contract.{RowsOf}
use Rattle.functional.proofs.Pairing.{apply-pairing, shifted_mono}
use Rattle.lambda.specs.declared.Pose.{Pose}
use Rattle.lambda.specs.Lambda.{Λ, ValueAsked, Valued, ValueAtAsked, ValueAt}

module _ {p c s to r : ℕ} {lam v : List ℕ} (A : ValueAsked p lam c v s to) where
  pub valued_shifted : Is p r (pairing p lam v s s to) → Valued p lam v s r
  valued_shifted i =
      record {
        below = i.below;
        is = λ C. i.is ∙ sym (apply-pairing p s to lam v C A.v_vec A.class A.room A.ends s (omega arith) (λ n h. inr h));
      }

  pub valued_plain : s ≤ c → Is p r (pairing p lam v s c to) → Valued p lam v s r
  valued_plain h i =
      record {
        below = i.below;
        is = λ C. i.is ∙ sym (apply-pairing p s to lam v C A.v_vec A.class A.room A.ends c h (λ n l. inl (A.low n l)));
      }

module _ {q : Pose} {e n h : ℕ} {lam : List ℕ} {ys : List (List ℕ)} (A : ValueAtAsked q lam ys e n h) where
  open q use {p, d}

  pub value_asked : ValueAsked p lam (d + largest_gap) (row ys (n % 3)) (n - 4 * (n % 3) + h) (n + h + e + 1)
  value_asked =
      record {
        lam_vec = A.lambda.vec;
        v_vec = A.rows.vec (n % 3) (omega arith);
        low = A.lambda.low;
        class = omega (arith, A.pole, A.class);
        room = A.room;
        ends = λ m l. inr (A.rows.tops (n % 3) (omega arith) (m - (n - 4 * (n % 3) + h)) (omega (arith, A.pole)));
      }

  pub value_at : {r : ℕ} → Valued p lam (row ys (n % 3)) (n - 4 * (n % 3) + h) r → ValueAt q lam ys n h r
  value_at v =
      record {
        below = v.below;
        is = λ C g o. v.is C ∙ ap (λ u. Λ p C lam ((Coordinate C).mul (moved C) u)) (o.is (n % 3) (omega arith)) ∙ ap (Λ p C lam) (shifted_mono p n h C A.pole A.class g);
      }
    where
      moved : (C : Curve (Z p)) → (Coordinate C).Car
      moved C = x_to p C ((n - 4 * (n % 3) + h) / 3)

pub value_at-none : {q : Pose} {n r : ℕ} {lam : List ℕ} {ys : List (List ℕ)} → ValueAt q lam ys n 0 r
    → (C : Curve (Z q.p)) (g : (Coordinate C).Car) → RowsOf q.p C ys g → el q.p r ≡ Λ q.p C lam ((Coordinate C).mul (mono C n) g)
unfolding power
value_at-none {q} {n} {lam = lam} v C g o = v.is C g o ∙ ap (λ u. Λ q.p C lam ((Coordinate C).mul (mono C n) u)) (L.one-mul (Coordinate C) g)
