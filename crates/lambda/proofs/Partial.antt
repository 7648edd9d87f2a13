-- The loop of functional: before the turn s the values up to d + s are chosen.
--   Partial q ys s lam             the loop's invariant
--   partial_start, partial_more, partial_done          its start, a turn and its end
--   partial_asked                  what a turn asks of value
use mathlib.Core.Path.{◌≡◌, refl, sym, ◌∙◌, ap, subst}
use mathlib.Core.List.{List}
use mathlib.Core.Logic.{inl, inr}
use Prim.Native.Nat.{ℕ, suc, ◌+◌, ◌*◌, ◌-◌, ◌%◌, ◌<◌, ◌≤◌}
use native.Mathlib.Omega.{arith}
use lib.ListN.{length, set, replicate}
use lib.Seq.{get_or-set_same, get_or-set_other}
use Rattle.algebra.proofs.Laws as L
use Rattle.field.specs.Residue.{Z, el}
use Rattle.field.proofs.Element.{el-zero, el-one}
use Rattle.ideal.specs.Poles.{largest_gap, IsGap}
use Rattle.curve.specs.Curve.{Curve, Coordinate}
use Rattle.curve.specs.Sequence.{coefficient, twist}
use Rattle.curve.specs.Monomial.{power, monomial, mono, Below}
use Rattle.curve.proofs.Filtration.{coefficient-below}
use Rattle.vector.specs.Vector.{Vec, Top, at, res, row, element, width}
use Rattle.terms.specs.Contract.{RowsOf}
use Rattle.vector.proofs.Loop.{vec_set, zeros-at}
use Rattle.vector.proofs.Loop.{zeros-vec}
use Rattle.vector.proofs.Element.{element-coefficient}
use Rattle.ground.specs.Ground.{UnitOf}
use Rattle.functional.proofs.Build.{Begun, begun-start, begun-next, begun_done}
use Rattle.lambda.specs.declared.Pose.{Pose}
use Rattle.lambda.specs.Lambda.{Λ, Lambda, ValueAsked, Valued, Opposite, OppositeOf, FunctionalAsked, FunctionalOf}

module _ (q : Pose) (ys : List (List ℕ)) where
  open q use {p, unit, d}

  pub record Partial (s : ℕ) (lam : List ℕ) : Type 0 where
    pub lambda : Lambda q lam
    pub high : Top lam (d + s)
    pub begun : (C : Curve (Z p)) (g : (Coordinate C).Car) → UnitOf p unit C → RowsOf p C ys g → coefficient C d g ≡ (Z p).one → Begun C width g d s (res p lam)

no_gap : (n : ℕ) → 6 ≤ n → IsGap n → {A : Type 0} → A
no_gap n h (inl e) = absurd (omega arith)
no_gap n h (inr (inl e)) = absurd (omega arith)
no_gap n h (inr (inr e)) = absurd (omega arith)

module _ {q : Pose} {ys : List (List ℕ)} (G : FunctionalAsked q ys) where
  open q use {p, unit, d}

  zeros : Vec p (replicate 26 0)
  zeros = zeros-vec p (omega (arith, G.large))

  -- 1 at d + 5 and 0 elsewhere
  abbrev start : List ℕ
  start = set (replicate 26 0) (d + largest_gap) 1

  first : (n : ℕ) → ¬ (n ≡ d + largest_gap) → at start n ≡ 0
  first n u = get_or-set_other (replicate 26 0) (d + largest_gap) n 1 0 u ∙ zeros-at 26 n

  start-vec : Vec p start
  start-vec = vec_set zeros (d + largest_gap) 1 G.large (omega (arith, G.high)) (λ g. no_gap (d + largest_gap) (omega (arith, G.low)) g)

  start-one : res p start (d + largest_gap) ≡ (Z p).one
  start-one = ap (el p) (get_or-set_same (replicate 26 0) (d + largest_gap) 1 0 (omega (arith, zeros.len, G.high))) ∙ el-one p

  pub partial_start : Partial q ys 6 (set (replicate 26 0) (d + largest_gap) 1)
  partial_start =
      record {
        lambda = record { vec = start-vec; low = λ n h. first n (omega arith) };
        high = λ n h. first n (omega arith);
        begun = λ C g u o m. begun-start C width g d (res p start) start-one (λ n v. ap (el p) (first n v) ∙ el-zero p);
      }

  module _ {s : ℕ} {lam : List ℕ} (B : Partial q ys s lam) (from : 6 ≤ s) (to : s < 14) where
    pub partial_asked : ValueAsked p lam (d + largest_gap) (row ys (s % 3)) (s - 4 * (s % 3)) (d + s)
    partial_asked =
        record {
          lam_vec = B.lambda.vec;
          v_vec = G.rows.vec (s % 3) (omega arith);
          low = B.lambda.low;
          class = omega arith;
          room = omega (arith, G.high);
          ends = λ n h. inl (B.high n h);
        }

    module _ (C : Curve (Z p)) (g : (Coordinate C).Car) (o : RowsOf p C ys g) where
      is-first : element p C (row ys 0) ≡ g
      unfolding power
      is-first = o.is 0 (omega arith) ∙ L.one-mul (Coordinate C) g

      none_above : (m : ℕ) → suc d ≤ m → coefficient C m g ≡ (Z p).zero
      none_above m h =
          ap (coefficient C m) (sym is-first)
          ∙ element-coefficient p C (G.rows.vec 0 (omega arith)) m
          ∙ ap (el p) (G.rows.tops 0 (omega arith) m (omega arith))
          ∙ el-zero p

      below : Below C (suc d) g
      below = coefficient-below C (suc d) g none_above

      at-mono : {v : ℕ} → Valued p lam (row ys (s % 3)) (s - 4 * (s % 3)) v → el p v ≡ Λ p C lam ((Coordinate C).mul (mono C s) g)
      unfolding mono monomial
      at-mono w =
          w.is C
          ∙ ap (Λ p C lam) (ap ((Coordinate C).mul _) (o.is (s % 3) (omega arith)) ∙ sym ((Coordinate C).mul_assoc _ _ _))

    module _ {v r : ℕ} (w : Valued p lam (row ys (s % 3)) (s - 4 * (s % 3)) v) (z : OppositeOf q (s % 3 + d % 3) v r) where
      inside : d + s < length lam
      inside = omega (arith, B.lambda.vec.len, G.high)

      -- lam with the new value
      abbrev next : List ℕ
      next = set lam (d + s) r

      others : (n : ℕ) → ¬ (n ≡ d + s) → at next n ≡ at lam n
      others n u = get_or-set_other lam (d + s) n r 0 u

      more : (C : Curve (Z p)) (g : (Coordinate C).Car) → UnitOf p unit C → RowsOf p C ys g → coefficient C d g ≡ (Z p).one → Begun C width g d (suc s) (res p next)
      more C g u o m = go (z.is C s d u refl)
        where
          go : Opposite q (twist C s d) (el p v) r → Begun C width g d (suc s) (res p next)
          go (c, e, i) =
              let new = ap (el p) (get_or-set_same lam (d + s) r 0 inside) ∙ i ∙ ap (λ t. (Z p).neg ((Z p).mul c t)) (at-mono C g o w) in
              begun-next C width (B.begun C g u o m) (below C g o) m from (omega (arith, G.high)) c e (λ n t. ap (el p) (others n t)) new

      next-vec : Vec p next
      next-vec = vec_set B.lambda.vec (d + s) r z.below (omega (arith, G.high)) (λ t. no_gap (d + s) (omega arith) t)

      pub partial_more : Partial q ys (s + 1) (set lam (d + s) r)
      partial_more =
          subst (λ n. Partial q ys n (set lam (d + s) r)) {x = suc s} {y = s + 1} (omega arith)
          (record {
            lambda = record { vec = next-vec; low = λ n h. others n (omega arith) ∙ B.lambda.low n h };
            high = λ n h. others n (omega arith) ∙ B.high n (omega arith);
            begun = more;
          })

pub partial_done : {q : Pose} {ys : List (List ℕ)} {s : ℕ} {lam : List ℕ} → s ≡ 14 → Partial q ys s lam → FunctionalOf q ys lam
partial_done {q} {ys} {s} {lam} e B =
    record {
      lambda = B.lambda;
      is = λ C g u o m. begun_done C width (subst (λ n. Begun C width g q.d n (res q.p lam)) e (B.begun C g u o m));
    }
