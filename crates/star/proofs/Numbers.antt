-- The numbers of a candidate as the code computes them.
--   term_y-none, term_y-some           the number before y, if d1 is not d + 1 and if it is
--   term_x-none, term_x-some           the number before x, if d2 is not d + 2 and if it is
--   term_one-is                        the constant
use mathlib.Core.Path.{◌≡◌, refl, ◌∙◌, ap, ap₂}
use mathlib.Core.List.{List}
use Prim.Native.Nat.{ℕ, ◌+◌, ◌-◌, ◌%◌, ◌<◌}
use native.Mathlib.Omega.{arith}
use Rattle.field.specs.Residue.{Z, el}
use Rattle.field.specs.Contract.{Is}
use Rattle.ideal.specs.Poles.{largest_gap}
use Rattle.curve.specs.Curve.{Curve, Coordinate}
use Rattle.curve.specs.Monomial.{mono}
use Rattle.curve.specs.Sequence.{twist}
use Rattle.terms.specs.Contract.{RowsOf}
use Rattle.ground.specs.Ground.{UnitOf}
use Rattle.lambda.specs.declared.Pose.{Pose}
use Rattle.lambda.specs.Lambda.{Λ, ValueAt, Opposite, OppositeOf}
use Rattle.lambda.proofs.Pairing.{value_at-none}
use Rattle.star.specs.declared.Values.{Values}
use Rattle.star.specs.Parts.{ValuesOf, TermY, TermX, TermOne}

module _ {q : Pose} where
  open q use {p, unit, d, d1, d2}

  module _ {lam : List ℕ} {us : List (List ℕ)} {n : ℕ} where
    pub term_y-none : 0 < p → ¬ (d1 ≡ d + 1) → TermY q lam us n 0
    term_y-none h u = record { below = h; none = λ _. refl; is = λ e. absurd (u e) }

    pub term_y-some : {a r : ℕ} → d1 ≡ d + 1 → ValueAt q lam us n 0 a → OppositeOf q (1 + d1 % 3) a r → TermY q lam us n r
    term_y-some {a} {r} e w o = record { below = o.below; none = λ u. absurd (u e); is = λ _. go }
      where
        go : (C : Curve (Z p)) (u : (Coordinate C).Car) → UnitOf p unit C → RowsOf p C us u
            → Opposite q (twist C 4 (d + 1)) (Λ p C lam ((Coordinate C).mul (mono C n) u)) r
        go C u i rows =
            let (c, inverse, is) = o.is C 4 (d + 1) i (omega arith) in
            (c, inverse, is ∙ ap (λ v. (Z p).neg ((Z p).mul c v)) (value_at-none w C u rows))

  module _ {lam : List ℕ} {ws : List (List ℕ)} {n a4 : ℕ} where
    pub term_x-none : 0 < p → ¬ (d2 ≡ d + 2) → TermX q lam ws n a4 0
    term_x-none h u = record { below = h; none = λ _. refl; is = λ e. absurd (u e) }

    pub term_x-some : {v : Values} {a b r : ℕ} → d2 ≡ d + 2 → ValuesOf q lam ws v → ValueAt q lam ws n 0 a
        → Is p b ((Z p).add ((Z p).mul (el p a4) (el p v.w4)) (el p a)) → Is p r ((Z p).neg (el p b)) → TermX q lam ws n a4 r
    term_x-some {v} {a} {b} {r} e k w i j = record { below = j.below; none = λ u. absurd (u e); is = λ _ C g rows. j.is ∙ ap (Z p).neg (i.is ∙ sum C g rows) }
      where
        sum : (C : Curve (Z p)) (g : (Coordinate C).Car) → RowsOf p C ws g
            → (Z p).add ((Z p).mul (el p a4) (el p v.w4)) (el p a)
            ≡ (Z p).add ((Z p).mul (el p a4) (Λ p C lam ((Coordinate C).mul (mono C 4) g))) (Λ p C lam ((Coordinate C).mul (mono C n) g))
        sum C g rows = ap₂ (λ s t. (Z p).add ((Z p).mul (el p a4) s) t) (value_at-none k.w4 C g rows) (value_at-none w C g rows)

    pub term_one-is : {v : Values} {a3 a b e r : ℕ} → ValuesOf q lam ws v → ValueAt q lam ws n (d + largest_gap - d2) a
        → Is p b ((Z p).add ((Z p).mul (el p a4) (el p v.v4)) (el p a)) → Is p e ((Z p).add ((Z p).mul (el p a3) (el p v.v3)) (el p b))
        → Is p r ((Z p).neg (el p e)) → TermOne q lam ws n a4 a3 r
    term_one-is {a3 = a3} k w i j l =
        record {
          below = l.below;
          is = λ C g rows. l.is ∙ ap (Z p).neg (j.is ∙ ap₂ (sum a3) (k.v3.is C g rows) (i.is ∙ ap₂ (sum a4) (k.v4.is C g rows) (w.is C g rows)));
        }
      where
        sum : ℕ → (Z p).Car → (Z p).Car → (Z p).Car
        sum n s t = (Z p).add ((Z p).mul (el p n) s) t
