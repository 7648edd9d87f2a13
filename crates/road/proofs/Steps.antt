-- The steps of the second road: each goes on with two divisors whose product is equivalent to the product of the two before.
--   swap_asked, road_swap      the order of the two does not matter
--   road_zero                  with the zero class the other one is the sum
--   inside_asked, road_double  where the common part is y itself, x lies inside y
--   parts_asked, road_parts    common multiple and common part
--   apart-asked, double-apart  the two that replace x and y where x lies inside y
use mathlib.Core.Path.{◌≡◌}
use Prim.Native.Nat.{ℕ, ◌≤◌}
use Rattle.ideal.specs.Ideal.{Product, Equivalent}
use Rattle.ideal.specs.Reduced.{IsReduced}
use Rattle.ideal.proofs.Same.{same_refl}
use Rattle.ideal.proofs.Class.{equivalent_refl, equivalent_sym, equivalent_trans}
use Rattle.ideal.proofs.Product.{product_comm}
use Rattle.ideal.proofs.Reduced.{equivalent_reduced, reduced_equivalent}
use Rattle.ideal.proofs.Star.{reduced-same}
use Rattle.ideal.proofs.Finite.{product-based}
use Rattle.ideal.proofs.Parts.{sum_left, sum-right}
use Rattle.ideal.proofs.Swap.{meet_based, parts_equivalent}
use Rattle.kind.specs.Kinds.{degree_of}
use Rattle.divisor.specs.Kind.{k0}
use Rattle.triple.specs.Setting.{Setting, ring, poles_of}
use Rattle.ground.specs.declared.Ground.{Ground}
use Rattle.basis.specs.declared.Divisor.{Divisor}
use Rattle.group.specs.Contract.{IsDivisor, ideal}
use Rattle.group.proofs.Divisor.{divisor_footprint, divisor-based}
use Rattle.group.proofs.Sums as sums
use Rattle.parts.specs.Contract.{PartOf, MultipleOf, InsideAsked, ApartOf}
use Rattle.parts.specs.declared.Parts.{Parts}
use Rattle.parts.proofs.Degrees.{inside-same}
use Rattle.parts.proofs.Equivalents.{divisor-invertible}
use Rattle.road.specs.Contract.{RoadAsked, RoadOf, DoubleOf}

module _ {g : Ground} {a b : Divisor} where
  pub swap_asked : RoadAsked g a b → RoadAsked g b a
  swap_asked A = record { pair = record { grounded = A.pair.grounded; a_is = A.pair.b_is; b_is = A.pair.a_is }; smooth = A.smooth }

  pub road_swap : {r : Divisor} → RoadOf g b a r → RoadOf g a b r
  unfolding swap_asked
  road_swap {r} h A =
      let S = A.pair.grounded.ready.setting in
      let q = h (swap_asked A) in
      (q.0, reduced-same (poles_of S) (product_comm (ring S)) (same_refl (ring S) (ideal S r q.0)) q.1)

  pub road_zero : b.kind ≡ k0 → RoadOf g a b a
  road_zero e A = sums.sum-right e A.pair

-- a divisor that is the sum of two divisors whose product is equivalent to that of a and b
class-sum : {p : ℕ} (S : Setting p) {a b c d r : Divisor} (A : IsDivisor S a) (B : IsDivisor S b) (C : IsDivisor S c) (D : IsDivisor S d) (E : IsDivisor S r)
    → Equivalent (ring S) (Product (ring S) (ideal S c C) (ideal S d D)) (Product (ring S) (ideal S a A) (ideal S b B))
    → IsReduced (poles_of S) (Product (ring S) (ideal S c C) (ideal S d D)) (ideal S r E)
    → IsReduced (poles_of S) (Product (ring S) (ideal S a A) (ideal S b B)) (ideal S r E)
class-sum S A B C D E e h =
    let base = product-based (poles_of S) (divisor-based S C) (divisor-based S D) in
    equivalent_reduced (poles_of S) (divisor_footprint S E)
    (equivalent_trans (poles_of S) (equivalent_sym (poles_of S) e) (reduced_equivalent (poles_of S) base.ideal base.based h))

module _ {g : Ground} {x y c : Divisor} (h : PartOf g x y c) where
  module _ (some : ¬ (y.kind ≡ k0)) (large : degree_of y.kind ≤ degree_of c.kind) where
    -- I + J lies inside J
    pub inside_asked : RoadAsked g x y → InsideAsked g x y
    inside_asked A =
        let S = A.pair.grounded.ready.setting in
        let q = h A.pair in
        record {
          pair = A.pair;
          smooth = A.smooth;
          inside = λ e m. inside-same S A.pair.b_is q.0 (λ k mk. (q.1 k).1 (sum-right (ring S) (divisor-based S A.pair.a_is).ideal mk)) large e
              ((q.1 e).1 (sum_left (ring S) (divisor-based S A.pair.b_is).ideal m));
          some = some;
        }

    pub road_double : {r : Divisor} → DoubleOf g x y r → RoadOf g x y r
    unfolding inside_asked
    road_double d A = d (inside_asked A)

  module _ {m : Divisor} (h' : MultipleOf g x y m) where
    pub parts_asked : RoadAsked g x y → RoadAsked g m c
    parts_asked A = record { pair = record { grounded = A.pair.grounded; a_is = (h' A.pair).0; b_is = (h A.pair).0 }; smooth = A.smooth }

    -- (I ∩ J)·(I + J) = I·J
    pub road_parts : {r : Divisor} → RoadOf g m c r → RoadOf g x y r
    unfolding parts_asked
    road_parts t A =
        let S = A.pair.grounded.ready.setting in
        let l = h' A.pair in
        let q = h A.pair in
        let r = t (parts_asked A) in
        let base = meet_based (poles_of S) (divisor-based S A.pair.a_is) (divisor-based S A.pair.b_is) in (
          r.0,
          class-sum S A.pair.a_is A.pair.b_is l.0 q.0 r.0
              (parts_equivalent (poles_of S) (equivalent_refl (poles_of S) (ideal S x A.pair.a_is)) (divisor-based S A.pair.a_is).ideal
              (divisor-based S A.pair.b_is).ideal (divisor-invertible S q.0 A.smooth) q.1
              (reduced_equivalent (poles_of S) base.ideal base.based l.1))
              r.1,
        )

module _ {g : Ground} {x y : Divisor} {s : Parts} (h : ApartOf g x y s) where
  pub apart-asked : InsideAsked g x y → RoadAsked g s.multiple s.part
  apart-asked A = record { pair = record { grounded = A.pair.grounded; a_is = (h A).multiple_is; b_is = (h A).part_is }; smooth = A.smooth }

  pub double-apart : {r : Divisor} → RoadOf g s.multiple s.part r → DoubleOf g x y r
  unfolding apart-asked
  double-apart t A =
      let S = A.pair.grounded.ready.setting in
      let r = t (apart-asked A) in
      (r.0, class-sum S A.pair.a_is A.pair.b_is (h A).multiple_is (h A).part_is r.0 (h A).class r.1)
