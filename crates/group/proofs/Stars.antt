-- What star is asked for and what it gives, for the triple of a divisor and for the product of two.
--   starred                the star of a triple is that of a set with the elements of the span
--   negative_asked         the span of a divisor's triple is an ideal with a lead of at most 6
--   negative_of            … so the star of the triple is the star of the divisor's ideal
--   product_asked          the triples of two divisors may be multiplied
--   product-star_asked     the span of their product is an ideal with a lead of at most 12
--   product_star_of        … so the star of that triple is the star of the product
use mathlib.Core.List.{List}
use Prim.Native.Nat.{ℕ, ◌≤◌}
use native.Mathlib.Omega.{arith}
use Rattle.ideal.specs.Ideal.{SameIdeal, Product}
use Rattle.ideal.specs.Reduced.{IsStar}
use Rattle.ideal.proofs.Same.{same_refl, same_sym, same_trans, ideal-same}
use Rattle.ideal.proofs.Degree.{pole-mul}
use Rattle.ideal.proofs.Leads.{Lead}
use Rattle.ideal.proofs.Star.{star-same}
use Rattle.ideal.proofs.Product.{product_of, product-ideal, product-same}
use Rattle.vector.specs.Vector.{at}
use Rattle.triple.specs.Setting.{Setting, ring, poles_of}
use Rattle.triple.specs.Triple.{Spanned}
use Rattle.product.specs.Contract.{ProductAsked, Multiplied}
use Rattle.triple.proofs.Leads.{spanned-lead}
use Rattle.ground.specs.declared.Ground.{Ground}
use Rattle.basis.specs.declared.Divisor.{Divisor}
use Rattle.basis.specs.Contract.{TripleOf}
use Rattle.basis.proofs.Ideal.{triple-least}
use Rattle.star.specs.Contract.{StarAsked, Starred, StarOf}
use Rattle.group.specs.Contract.{IsDivisor, ideal, NegativeAsked, NegativeOf, SumAsked, ProductStarOf}
use Rattle.group.proofs.Divisor.{divisor_footprint, divisor_tripled, divisor_span, divisor-same}

-- a star of a set that has the same elements as J
pub starred : {p : ℕ} {S : Setting p} {t : List (List ℕ)} {r : Divisor} {J : (ring S).Car → Type 0} → SameIdeal (ring S) (Spanned S t) J → Starred p S t r
    → (D : IsDivisor S r) × IsStar (poles_of S) J (ideal S r D)
starred {S = S} e q = (record { kind = q.kind; based = q.based }, star-same (poles_of S) e (same_refl (ring S) _) q.star)

module _ {g : Ground} {a : Divisor} {t : List (List ℕ)} {d : List ℕ} (h : TripleOf a t d) where
  pub negative_asked : NegativeAsked g a → StarAsked g t d
  negative_asked A =
      record {
        grounded = A.grounded;
        full = (divisor_tripled A.grounded.ready.setting A.a_is h).full;
        ideal = divisor_span A.grounded.ready.setting A.a_is h;
        low = (0, omega arith, omega (arith, triple-least (divisor_tripled A.grounded.ready.setting A.a_is h)));
      }

  pub negative_of : {r : Divisor} → StarOf g t d r → NegativeOf g a r
  unfolding negative_asked
  negative_of s A = starred (divisor-same A.grounded.ready.setting A.a_is h) (s (negative_asked A))

module _ {g : Ground} {a b : Divisor} {t₁ t₂ : List (List ℕ)} {d₁ d₂ : List ℕ} (h₁ : TripleOf a t₁ d₁) (h₂ : TripleOf b t₂ d₂) where
  pub product_asked : SumAsked g a b → ProductAsked g.p g.cube t₁ d₁ t₂ d₂
  product_asked A =
      record {
        ready = A.grounded.ready;
        full₁ = (divisor_tripled A.grounded.ready.setting A.a_is h₁).full;
        small₁ = (divisor_tripled A.grounded.ready.setting A.a_is h₁).small;
        full₂ = (divisor_tripled A.grounded.ready.setting A.b_is h₂).full;
        small₂ = (divisor_tripled A.grounded.ready.setting A.b_is h₂).small;
      }

  module _ {t : List (List ℕ)} {d : List ℕ} (m : Multiplied g.p g.cube t₁ t₂ t d) (A : SumAsked g a b) where
    abbrev S : Setting g.p
    S = A.grounded.ready.setting

    abbrev J : (ring S).Car → Type 0
    J = Product (ring S) (ideal S a A.a_is) (ideal S b A.b_is)

    span_product : SameIdeal (ring S) (Spanned S t) J
    span_product = same_trans (ring S) (m.same A.grounded.ready) (product-same (ring S) (divisor-same S A.a_is h₁) (divisor-same S A.b_is h₂))

    low : Lead (poles_of S) (ideal S a A.a_is) 6 → Lead (poles_of S) (ideal S b A.b_is) 6 → at d 0 ≤ 12
    low (u, mu, pu) (v, mv, pv) = (spanned-lead S m.full.triple ((span_product ((ring S).mul u v)).1 (product_of (ring S) mu mv)) (pole-mul (poles_of S) pu pv)).0

    pub product-star_asked : StarAsked g t d
    product-star_asked =
        record {
          grounded = A.grounded;
          full = m.full;
          ideal = ideal-same (ring S) (same_sym (ring S) span_product) (product-ideal (ring S) (divisor_footprint S A.a_is).ideal);
          low = (0, omega arith, low ((divisor_footprint S A.a_is).leads 6 (omega arith)) ((divisor_footprint S A.b_is).leads 6 (omega arith)));
        }

  pub product_star_of : {t : List (List ℕ)} {d : List ℕ} {r : Divisor} → Multiplied g.p g.cube t₁ t₂ t d → StarOf g t d r → ProductStarOf g a b r
  unfolding product-star_asked
  product_star_of m s A = starred (span_product m A) (s (product-star_asked m A))
