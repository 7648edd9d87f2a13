-- A certificate that passes its tests shows what it is for: f is in I·(f : I) if F's derivatives generate the ring. It holds over every commutative ring.
--   certificate_sound      … for the ideal I of a record that is a basis and its first polynomial f
use mathlib.Core.Path.{◌≡◌, sym, ◌∙◌, ap, subst}
use mathlib.Core.List.{List, [], ◌∷◌, ◌++◌, map}
use Prim.Native.Nat.{ℕ}
use lib.Dec.{T}
use Rattle.algebra.specs.Ring.{CommRing}
use Rattle.algebra.proofs.Laws as laws
use Rattle.algebra.proofs.Norm.{E, nil, same}
use Rattle.algebra.proofs.Solve.{◌⊞◌, ◌⊠◌, combine}
use Rattle.algebra.proofs.Sound.{head, tail}
use Rattle.algebra.proofs.Test.{both, both_left, both_right}
use Rattle.ideal.specs.Ideal.{IsIdeal, Generated, Product, Multiple, Colon}
use Rattle.ideal.proofs.Every.{Every, every_map, every_append, every_image, every_source, all, all_every}
use Rattle.ideal.proofs.Product.{product_of, product-ideal, taken_ideal}
use Rattle.ideal.proofs.Generated.{generated_ideal, generated_each, generated_in}
use Rattle.ideal.proofs.Invertible.{multiple-ideal}
use Rattle.curve.specs.Curve.{Curve, Coordinate}
use Rattle.divisor.specs.Kind.{Kind, polynomials, IdealOf, IsBasis}
use Rattle.expressions.proofs.Letters.{F, derivative}
use Rattle.expressions.proofs.Value.{at_same}
use Rattle.invertible.proofs.Formula.{forms}
use Rattle.invertible.proofs.Value as value
use Rattle.invertible.proofs.Vanish.{flat, vanish}
use Rattle.invertible.proofs.Certificate.{Relation, Quotient, Member, Certificate, form, multiple, total, divides, combination, totals, zeros, member_test, row_test, valid}

module _ {k : CommRing} (C : Curve k) (n : ℕ → k.Car) (κ : Kind) (K : Certificate) (t : T (valid κ K)) (basis : IsBasis C κ n) where
  open Coordinate C use {Car as El, zero as 𝟎, one as 𝟏, add as ◌⊕◌, mul as ◌⊗◌}

  infixl 60 ◌⊕◌
  infixl 70 ◌⊗◌
  abbrev R : CommRing
  R = Coordinate C

  abbrev at : E → El
  at = value.at C n

  abbrev I : El → Type 0
  I = IdealOf C κ n

  abbrev f : El
  f = at (form κ 0)

  abbrev J : El → Type 0
  J = Colon R f I

  t₁ : T (both (all (member_test κ K) K.members) (both (row_test κ K 0) (row_test κ K 1)))
  t₁ = both_right (all (flat κ) (totals κ K)) _ t

  t₂ : T (both (row_test κ K 0) (row_test κ K 1))
  t₂ = both_right (all (member_test κ K) K.members) _ t₁

  ideal : IsIdeal R I
  ideal = generated_ideal R (polynomials C κ n)

  combine_in : {U : El → Type 0} → IsIdeal R U → (es qs : List E) → Every (λ e. U (at e)) es → U (at (combine es qs))
  combine_in i [] qs _ = i.nil
  combine_in i (e ∷ es) qs (p, ps) = i.sum (i.times (at (head nil qs)) p) (combine_in i es (tail qs) ps)

  combine_zero : (es qs : List E) → Every (λ e. at e ≡ 𝟎) es → at (combine es qs) ≡ 𝟎
  combine_zero = combine_in (generated_ideal R [])

  forms_in : Every (λ g. I (at g)) (forms κ)
  forms_in = every_source I at (forms κ) (subst (Every I) (sym (value.forms_at C n κ)) (generated_each R (polynomials C κ n)))

  -- what is zero on the curve
  record Vanishes (r : Relation) : Type 0 where
    sum : at (multiple κ r) ≡ 𝟎
    by_x : at (derivative 0 (total κ r)) ≡ 𝟎
    by_y : at (derivative 1 (total κ r)) ≡ 𝟎

  relation_vanishes : (r : Relation) → T (flat κ (total κ r)) → Vanishes r
  relation_vanishes r u = go (vanish C n κ (total κ r) u basis (ideal.sum (combine_in ideal (forms κ) r.cofactors forms_in) (subst I (sym no-F) ideal.nil)))
    where
      no-F : at r.factor ⊗ at F ≡ 𝟎
      no-F = ap (λ z. at r.factor ⊗ z) (value.F-zero C n) ∙ laws.mul-zero R (at r.factor)

      go : (at (total κ r) ≡ 𝟎) × (at (derivative 0 (total κ r)) ≡ 𝟎) × (at (derivative 1 (total κ r)) ≡ 𝟎) → Vanishes r
      go (z, zx, zy) = record { sum = sym (ap (λ e. at (multiple κ r) ⊕ e) no-F ∙ R.add_zero _) ∙ z; by_x = zx; by_y = zy }

  relations-vanish : Every Vanishes K.relations
  relations-vanish =
      every_map relation_vanishes K.relations
      (every_source (λ e. T (flat κ e)) (total κ) K.relations (all_every (flat κ) (totals κ K) (both_left (all (flat κ) (totals κ K)) _ t)))

  zeros-vanish : Every (λ e. at e ≡ 𝟎) (zeros κ K)
  zeros-vanish = every_image (λ e. at e ≡ 𝟎) (multiple κ) K.relations (every_map (λ r z. z.sum) K.relations relations-vanish)

  -- each polynomial times the member's element is a multiple of f, so this is in (f : I)
  divides-each : (w : E) (gs : List E) (qs : List Quotient) → T (divides (form κ 0) (zeros κ K) w gs qs) → Every (λ g. Multiple R f (at g ⊗ at w)) gs
  divides-each w [] qs u = tt
  divides-each w (g ∷ gs) [] u = absurd u
  divides-each w (g ∷ gs) (q ∷ qs) u =
      let test = same (g ⊠ w) (form κ 0 ⊠ q.quotient ⊞ combine (zeros κ K) q.rest) in
      let others = divides (form κ 0) (zeros κ K) w gs qs in (
        (
          at q.quotient,
          at_same C (value.nine n) (g ⊠ w) (form κ 0 ⊠ q.quotient ⊞ combine (zeros κ K) q.rest) (both_left test others u)
              ∙ ap (λ z. f ⊗ at q.quotient ⊕ z) (combine_zero (zeros κ K) q.rest zeros-vanish) ∙ R.add_zero _,
        ),
        divides-each w gs qs (both_right test others u),
      )

  member_colon : (m : Member) → T (member_test κ K m) → J (at m.element)
  member_colon m u h mh =
      subst (Multiple R f) (R.mul_comm h (at m.element))
      (generated_in R (taken_ideal R (at m.element) (multiple-ideal R f)) (polynomials C κ n) polynomials_taken h mh)
    where
      polynomials_taken : Every (λ g. Multiple R f (g ⊗ at m.element)) (polynomials C κ n)
      polynomials_taken =
          subst (Every (λ g. Multiple R f (g ⊗ at m.element))) (value.forms_at C n κ)
          (every_image (λ g. Multiple R f (g ⊗ at m.element)) at (forms κ) (divides-each m.element (forms κ) m.quotients u))

  combination_in : (ess : List (List E)) (ms : List Member) → Every (λ m. J (at m.element)) ms → Product R I J (at (combination (forms κ) ess ms))
  combination_in [] ms _ = (product-ideal R ideal).nil
  combination_in (es ∷ ess) [] _ = (product-ideal R ideal).nil
  combination_in (es ∷ ess) (m ∷ ms) (p, ps) = (product-ideal R ideal).sum (product_of R (combine_in ideal (forms κ) es forms_in) p) (combination_in ess ms ps)

  row_in : (v : ℕ) → T (row_test κ K v) → Every (λ r. at (derivative v (total κ r)) ≡ 𝟎) K.relations → Product R I J (at (derivative v F) ⊗ f)
  row_in v u zs =
      subst (Product R I J) (sym (at_same C (value.nine n) (derivative v F ⊠ form κ 0) (c ⊞ z) u ∙ ap (λ e. at c ⊕ e) zero ∙ R.add_zero _))
      (combination_in (K.row v).multiples K.members (every_map member_colon K.members (all_every (member_test κ K) K.members (both_left (all (member_test κ K) K.members) _ t₁))))
    where
      c : E
      c = combination (forms κ) (K.row v).multiples K.members

      z : E
      z = combine (zeros κ K ++ map (derivative v) (totals κ K)) (K.row v).rest

      zero : at z ≡ 𝟎
      zero =
          combine_zero (zeros κ K ++ map (derivative v) (totals κ K)) (K.row v).rest
          (every_append (λ e. at e ≡ 𝟎) (zeros κ K) (map (derivative v) (totals κ K)) zeros-vanish (every_image (λ e. at e ≡ 𝟎) (derivative v) (totals κ K) (every_image (λ e. at (derivative v e) ≡ 𝟎) (total κ) K.relations zs)))

  -- 1 = s·Fx + t·Fy, so f = s·Fx·f + t·Fy·f
  pub certificate_sound : Generated R (at (derivative 0 F) ∷ at (derivative 1 F) ∷ []) 𝟏 → Product R I J f
  certificate_sound s =
      subst (Product R I J) (laws.one-mul R f)
      (generated_in R (taken_ideal R f (product-ideal R ideal)) (at (derivative 0 F) ∷ at (derivative 1 F) ∷ []) (
        row_in 0 (both_left (row_test κ K 0) (row_test κ K 1) t₂) (every_map (λ r z. z.by_x) K.relations relations-vanish),
        (row_in 1 (both_right (row_test κ K 0) (row_test κ K 1) t₂) (every_map (λ r z. z.by_y) K.relations relations-vanish), tt),
      ) 𝟏 s)
