-- The sum of two divisors: the reduced ideal of the product of their ideals.
--   star-divisor           the star of the product is a divisor, whose negative may be asked for
--   sum_of                 the star of the star of the product
--   sum_left, sum-right    with a divisor of kind 0 the other one
--   sum_equivalent         the product is equivalent to the ideal of the sum
use mathlib.Core.Path.{◌≡◌}
use Prim.Native.Nat.{ℕ}
use Rattle.ideal.specs.Ideal.{SameIdeal, Product, Equivalent}
use Rattle.ideal.proofs.Same.{same_refl, same_sym, same_trans}
use Rattle.ideal.proofs.Class.{equivalent_same}
use Rattle.ideal.proofs.Product.{product-same, product_comm, product-unit}
use Rattle.ideal.proofs.Reduced.{star-star, equivalent_reduced, reduced_equivalent}
use Rattle.ideal.proofs.Finite.{product-based}
use Rattle.divisor.specs.Kind.{k0}
use Rattle.triple.specs.Setting.{Setting, ring, poles_of}
use Rattle.ground.specs.declared.Ground.{Ground}
use Rattle.basis.specs.declared.Divisor.{Divisor}
use Rattle.group.specs.Contract.{IsDivisor, ideal, NegativeAsked, NegativeOf, SumAsked, SumOf, ProductStarOf}
use Rattle.group.proofs.Divisor.{divisor_footprint, divisor-based, kind-zero}

pub star-divisor : {g : Ground} {a b s : Divisor} → ProductStarOf g a b s → SumAsked g a b → NegativeAsked g s
star-divisor h A = record { grounded = A.grounded; a_is = (h A).0 }

pub sum_of : {g : Ground} {a b s r : Divisor} → ProductStarOf g a b s → NegativeOf g s r → SumOf g a b r
sum_of h n A =
    let r = n (record { grounded = A.grounded; a_is = (h A).0 }) in
    (r.0, star-star (poles_of A.grounded.ready.setting) (h A).1 r.1)

module _ {p : ℕ} (S : Setting p) {a b : Divisor} (D : IsDivisor S a) (E : IsDivisor S b) where
  whole-times : a.kind ≡ k0 → SameIdeal (ring S) (Product (ring S) (ideal S a D) (ideal S b E)) (ideal S b E)
  whole-times e =
      same_trans (ring S) (product-same (ring S) (same_sym (ring S) (kind-zero S D e)) (same_refl (ring S) (ideal S b E))) (product-unit (ring S) (divisor_footprint S E).ideal)

module _ {g : Ground} {a b : Divisor} where
  pub sum_left : a.kind ≡ k0 → SumOf g a b b
  sum_left e A =
      let S = A.grounded.ready.setting in
      (A.b_is, equivalent_reduced (poles_of S) (divisor_footprint S A.b_is) (equivalent_same (poles_of S) (whole-times S A.a_is A.b_is e)))

  pub sum-right : b.kind ≡ k0 → SumOf g a b a
  sum-right e A =
      let S = A.grounded.ready.setting in
      (A.a_is, equivalent_reduced (poles_of S) (divisor_footprint S A.a_is) (equivalent_same (poles_of S) (same_trans (ring S) (product_comm (ring S)) (whole-times S A.b_is A.a_is e))))

  pub sum_equivalent : {r : Divisor} → SumOf g a b r → (A : SumAsked g a b)
      → let S = A.grounded.ready.setting in
      (D : IsDivisor S r) × Equivalent (ring S) (Product (ring S) (ideal S a A.a_is) (ideal S b A.b_is)) (ideal S r D)
  sum_equivalent {r} h A =
      let s = h A in
      let S = A.grounded.ready.setting in
      let base = product-based (poles_of S) (divisor-based S A.a_is) (divisor-based S A.b_is) in
      (s.0, reduced_equivalent (poles_of S) base.ideal base.based s.1)
