-- Common part and common multiple of two divisors.
--   star_asked, overlap_of         the star of the star of u·I + v·J
--   part-asked, part_of            the reduced ideal of 1·I + 1·J is I + J
--   star-least                     the ideal of a negative is (f : I), f the least element of I
--   meet_asked, meet_of            the star of u·J* + v·N is the reduced ideal of (u : N) ∩ J
--   multiple-asked, multiple_of    … that of I ∩ J, for N = I* and u the least element of I
use mathlib.Core.Path.{sym, ◌∙◌, subst}
use Prim.Native.Nat.{ℕ}
use native.Mathlib.Omega.{arith}
use Rattle.ideal.specs.Ideal.{Colon, SameIdeal}
use Rattle.ideal.specs.Reduced.{IsStar}
use Rattle.ideal.proofs.Same.{same_refl, same_trans}
use Rattle.ideal.proofs.Degree.{monic-pole}
use Rattle.ideal.proofs.Leads.{ideal_space, least_unique}
use Rattle.ideal.proofs.Colon.{colon_self, colon_same, colon_colon}
use Rattle.ideal.proofs.Reduced.{reduced_self, reduced_unique, star-star}
use Rattle.ideal.proofs.Star.{star-same, reduced-same}
use Rattle.ideal.proofs.Parts.{sum-ideal, sum_same, intersection_same}
use Rattle.ideal.proofs.Invertible.{Scaled}
use Rattle.ideal.proofs.Swap.{scaled_same, scaled_one, sum_footprint, meet_reduced}
use Rattle.divisor.specs.Kind.{k0}
use Rattle.triple.specs.Setting.{Setting, ring, poles_of}
use Rattle.ground.specs.declared.Ground.{Ground}
use Rattle.basis.specs.declared.Divisor.{Divisor}
use Rattle.basis.specs.Divisor.{Shaped}
use Rattle.group.specs.Contract.{IsDivisor, ideal, NegativeAsked, NegativeOf, SumAsked, ZeroClass}
use Rattle.group.proofs.Divisor.{divisor_footprint, divisor-based, zero-divisor}
use Rattle.combination.specs.Contract.{value, MemberIs, MemberOf, CombinationAsked, CombinationOf}
use Rattle.combination.specs.declared.Polynomial.{Polynomial}
use Rattle.parts.specs.Contract.{LeastOf, OverlapOf, PartOf, MeetAsked, MeetOf, MultipleOf}
use Rattle.parts.proofs.Classes.{value-pole}

module _ {g : Ground} {u : Polynomial} {x : Divisor} {v : Polynomial} {y s : Divisor} (h : CombinationOf g u x v y s) where
  pub star_asked : CombinationAsked g u x v y → NegativeAsked g s
  star_asked A = record { grounded = A.pair.grounded; a_is = (h A).0 }

  pub overlap_of : {r : Divisor} → NegativeOf g s r → OverlapOf g u x v y r
  overlap_of n A =
      let r = n (record { grounded = A.pair.grounded; a_is = (h A).0 }) in
      (r.0, star-star (poles_of A.pair.grounded.ready.setting) (h A).1 r.1)

module _ {zero : Divisor} {one : Polynomial} (z : ZeroClass zero) (m : MemberOf zero 0 one) where
  is : {p : ℕ} (S : Setting p) → MemberIs p k0 zero 0 one
  is {p} S =
      let D = zero-divisor S z in
      m.of p k0 S.prime (subst (λ κ. Shaped p κ zero) (sym D.based.shaped.kind ∙ z.kind) D.based.shaped)

  pub part-asked : {g : Ground} {x y : Divisor} → SumAsked g x y → CombinationAsked g one x one y
  part-asked A =
      let i = is A.grounded.ready.setting in
      record { pair = A; u_is = i.monic; v_is = i.monic; v_low = omega (arith, i.degree_is) }

  pub part_of : {g : Ground} {x y r : Divisor} → OverlapOf g one x one y r → PartOf g x y r
  unfolding part-asked
  part_of {x = x} {y} {r} h A =
      let S = A.grounded.ready.setting in
      let q = h (part-asked A) in (
        q.0,
        reduced_unique (poles_of S) (sum-ideal (ring S) (divisor-based S A.a_is).ideal (divisor-based S A.b_is).ideal)
            (reduced-same (poles_of S) (sum_same (ring S) (plain S (ideal S x A.a_is)) (plain S (ideal S y A.b_is))) (same_refl (ring S) (ideal S r q.0)) q.1)
            (reduced_self (poles_of S) (sum_footprint (poles_of S) (divisor-based S A.a_is) (divisor_footprint S A.b_is))),
      )
    where
      plain : {p : ℕ} (S : Setting p) (I : (ring S).Car → Type 0) → SameIdeal (ring S) (Scaled (ring S) (value S one) I) I
      plain S I = subst (λ e. SameIdeal (ring S) (Scaled (ring S) e I) I) (sym ((is S).value_is S.curve)) (scaled_one (ring S) I)

module _ {p : ℕ} (S : Setting p) {x n : Divisor} (D : IsDivisor S x) (N : IsDivisor S n) {f : Polynomial} where
  pub star-least : LeastOf x f → IsStar (poles_of S) (ideal S x D) (ideal S n N) → SameIdeal (ring S) (ideal S n N) (Colon (ring S) (value S f) (ideal S x D))
  star-least l s =
      subst (λ e. SameIdeal (ring S) (ideal S n N) (Colon (ring S) e (ideal S x D)))
      (least_unique (poles_of S) (ideal_space (poles_of S) (divisor-based S D).ideal) s.least (l p S D).least) s.same

module _ {g : Ground} {u : Polynomial} {n y m : Divisor} {v : Polynomial} (neg : NegativeOf g y m) (l : LeastOf y v) where
  pub meet_asked : MeetAsked g u n y → CombinationAsked g u m v n
  meet_asked A =
      let G = A.pair.grounded in
      let s = neg (record { grounded = G; a_is = A.pair.b_is }) in
      let f = l g.p G.ready.setting A.pair.b_is in
      record { pair = record { grounded = G; a_is = s.0; b_is = A.pair.a_is }; u_is = A.u_is; v_is = f.monic; v_low = f.low }

  pub meet_of : {r : Divisor} → CombinationOf g u m v n r → MeetOf g u n y r
  unfolding meet_asked
  meet_of {r} h A =
      let S = A.pair.grounded.ready.setting in
      let s = neg (record { grounded = A.pair.grounded; a_is = A.pair.b_is }) in
      let f = (l g.p S A.pair.b_is).least in
      let q = h (meet_asked A) in (
        q.0,
        meet_reduced (poles_of S) (value-pole S A.u_is) (monic-pole (poles_of S) f.monic) (divisor-based S A.pair.a_is)
            (divisor-based S A.pair.b_is) A.u_in f.member
            (star-same (poles_of S)
            (sum_same (ring S) (scaled_same (ring S) (value S u) (star-least S A.pair.b_is s.0 l s.1))
            (same_refl (ring S) (Scaled (ring S) (value S v) (ideal S n A.pair.a_is))))
            (same_refl (ring S) (ideal S r q.0)) q.1),
      )

module _ {g : Ground} {x y n : Divisor} {u : Polynomial} (neg : NegativeOf g x n) (l : LeastOf x u) where
  pub multiple-asked : SumAsked g x y → MeetAsked g u n y
  multiple-asked A =
      let S = A.grounded.ready.setting in
      let s = neg (record { grounded = A.grounded; a_is = A.a_is }) in
      let f = l g.p S A.a_is in
      record {
        pair = record { grounded = A.grounded; a_is = s.0; b_is = A.b_is };
        u_is = f.monic;
        u_in = (star-least S A.a_is s.0 l s.1 (value S u)).1 (colon_self (ring S) (value S u) (ideal S x A.a_is));
      }

  -- (u : I*) = (u : (u : I)) = I
  pub multiple_of : {r : Divisor} → MeetOf g u n y r → MultipleOf g x y r
  unfolding multiple-asked
  multiple_of {r} h A =
      let S = A.grounded.ready.setting in
      let s = neg (record { grounded = A.grounded; a_is = A.a_is }) in
      let f = (l g.p S A.a_is).least in
      let b = divisor-based S A.a_is in
      let q = h (multiple-asked A) in (
        q.0,
        reduced-same (poles_of S)
            (intersection_same (ring S)
            (same_trans (ring S) (colon_same (ring S) (value S u) (star-least S A.a_is s.0 l s.1))
            (colon_colon (poles_of S) (monic-pole (poles_of S) f.monic) b.ideal b.based f.member))
            (same_refl (ring S) (ideal S y A.b_is)))
            (same_refl (ring S) (ideal S r q.0)) q.1,
      )
