-- u·I is added to the span of a triple, for the ideal I of a divisor.
--   multiples_asked        the y-multiples of u may be made
--   products_asked         … and the products of u with the members of the divisor's triple put in
--   added                  then the span is u·I and the span before, added
use mathlib.Core.List.{List}
use Prim.Native.Nat.{ℕ, ◌+◌}
use native.Mathlib.Omega.{arith}
use Rattle.ideal.specs.Ideal.{SameIdeal}
use Rattle.ideal.specs.Parts.{IdealSum}
use Rattle.ideal.proofs.Invertible.{Scaled}
use Rattle.ideal.proofs.Parts.{sum_same}
use Rattle.ideal.proofs.Same.{same_refl, same_trans}
use Rattle.ideal.proofs.Swap.{scaled_same}
use Rattle.multiplication.specs.Contract.{YMultiplesAsked, YMultiples}
use Rattle.triple.specs.Setting.{Setting, ring}
use Rattle.triple.specs.Triple.{Spanned}
use Rattle.product.specs.Contract.{PutAsked, ProductsPut}
use Rattle.ground.specs.declared.Ground.{Ground}
use Rattle.basis.specs.declared.Divisor.{Divisor}
use Rattle.basis.specs.Contract.{Tripled, TripleOf}
use Rattle.group.specs.Contract.{ideal, NegativeAsked}
use Rattle.group.proofs.Divisor.{divisor_tripled, divisor-same}
use Rattle.combination.specs.declared.Polynomial.{Polynomial}
use Rattle.combination.specs.Contract.{value, AddAsked, Added}
use Rattle.combination.proofs.Spans.{put_same}

module _ {g : Ground} {u : Polynomial} {x : Divisor} {t : List (List ℕ)} {d : List ℕ} (h : AddAsked g u x t d) where
  pub multiples_asked : YMultiplesAsked g.p g.cube u.v (u.d + 1)
  multiples_asked =
      record {
        y3_vec = h.asked.grounded.ready.y3_vec;
        y3_top = h.asked.grounded.ready.y3_top;
        v_vec = h.u_is.vec;
        v_top = λ i k. h.u_is.present.top i (omega arith);
        room = omega (arith, h.u_is.low);
      }

  module _ {t₁ : List (List ℕ)} {d₁ : List ℕ} {ys : List (List ℕ)} (o : TripleOf x t₁ d₁) (m : YMultiples g.p g.cube u.v (u.d + 1) ys) where
    pub products_asked : PutAsked g.p t₁ d₁ ys (u.d + 1) t d
    products_asked =
        record { prime = S.prime; full = tripled.full; small = tripled.small; rows = m.rows; low = omega (arith, h.u_is.low); triple = h.triple }
      where
        S : Setting g.p
        S = h.asked.grounded.ready.setting

        tripled : Tripled g.p h.asked.a_is.kind x t₁ d₁
        tripled = divisor_tripled S h.asked.a_is o

    pub added : {t' : List (List ℕ)} {d' : List ℕ} → ProductsPut g.p t₁ ys t t' d' → Added g u x t t' d'
    added {t'} {d'} r = record { triple = r.triple; same = same }
      where
        same : (A : NegativeAsked g x)
            → let S = A.grounded.ready.setting in
            SameIdeal (ring S) (Spanned S t') (IdealSum (ring S) (Scaled (ring S) (value S u) (ideal S x A.a_is)) (Spanned S t))
        same A =
            let S = A.grounded.ready.setting in
            same_trans (ring S) (r.same S (value S u) (m.value S.curve A.grounded.ready.cube))
            (same_trans (ring S) (put_same S t₁ t (divisor_tripled S A.a_is o).full.triple.len_t (value S u))
            (sum_same (ring S) (scaled_same (ring S) (value S u) (divisor-same S A.a_is o)) (same_refl (ring S) (Spanned S t))))
