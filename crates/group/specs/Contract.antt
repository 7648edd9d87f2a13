-- What the functions on divisors by value require and ensure.
--   IsDivisor S r      r is a basis of some kind on the curve of S
--   ideal S r D        its ideal
--   NegativeAsked, NegativeOf      negative: the ideal of the result is I*
--   SumAsked, SumIs, SumOf         sum, by_product: it is the reduced ideal of the product
--   ByFormulasOf                   by_formulas: what there is is the sum, and what the formulas say of two divisors of kind 31
--   tried_sum, tried_formulas      the sum of what tried returns, and what by_formulas had for it
--   TriedSumOf                     tried: the sum, and what the formulas say of two divisors of kind 31
--   ProductStarOf                  product_star: it is J*, for the product J
--   ZeroClass r                    zero_class: kind 0, and no number
use Rattle.std.specs.Prelude.{◌≡◌, ℕ, replicate, Option, Some, None, IfSome}
use Rattle.ideal.specs.Ideal.{Product}
use Rattle.ideal.specs.Reduced.{IsStar, IsReduced}
use Rattle.divisor.specs.Kind.{Kind, k0, IdealOf}
use Rattle.triple.specs.Setting.{Setting, ring, poles_of}
use Rattle.ground.specs.declared.Ground.{Ground}
use Rattle.ground.specs.Ground.{Grounded}
use Rattle.basis.specs.Divisor.{numbers_of, residues, BasisValue}
use Rattle.basis.specs.declared.Divisor.{Divisor}
use Rattle.usual.specs.Trial.{TriedOf}
use Rattle.group.specs.declared.SumBy.{SumBy}
use Rattle.group.specs.declared.SumBy.TheVariants as by

pub record IsDivisor {p : ℕ} (S : Setting p) (r : Divisor) : Type 0 where
  pub kind : Kind
  pub based : BasisValue p S.curve kind r

abbrev pub ideal : {p : ℕ} (S : Setting p) (r : Divisor) → IsDivisor S r → (ring S).Car → Type 0
ideal {p} S r D = IdealOf S.curve D.kind (residues p r)

pub record NegativeAsked (g : Ground) (a : Divisor) : Type 0 where
  pub grounded : Grounded g
  pub a_is : IsDivisor grounded.ready.setting a

abbrev pub NegativeOf : (g : Ground) (a r : Divisor) → Type 0
NegativeOf g a r =
    (A : NegativeAsked g a) →
    let S = A.grounded.ready.setting in
    (D : IsDivisor S r) × IsStar (poles_of S) (ideal S a A.a_is) (ideal S r D)

pub record SumAsked (g : Ground) (a b : Divisor) : Type 0 where
  pub grounded : Grounded g
  pub a_is : IsDivisor grounded.ready.setting a
  pub b_is : IsDivisor grounded.ready.setting b

abbrev pub SumIs : {g : Ground} {a b : Divisor} → SumAsked g a b → Divisor → Type 0
SumIs {g} {a} {b} A r =
    let S = A.grounded.ready.setting in
    (D : IsDivisor S r) × IsReduced (poles_of S) (Product (ring S) (ideal S a A.a_is) (ideal S b A.b_is)) (ideal S r D)

abbrev pub SumOf : (g : Ground) (a b r : Divisor) → Type 0
SumOf g a b r = (A : SumAsked g a b) → SumIs A r

-- what the formulas give of any two divisors: a sum that there is, and what usual::sum_tried says of two divisors of kind 31
pub record ByFormulasOf (g : Ground) (a b : Divisor) (r : Option Divisor) : Type 0 where
  pub sum : IfSome r (SumOf g a b)
  pub tried : TriedOf g a b r

abbrev pub tried_sum : SumBy → Divisor
tried_sum (by.Formulas s) = s
tried_sum (by.Product s) = s

abbrev pub tried_formulas : SumBy → Option Divisor
tried_formulas (by.Formulas s) = Some s
tried_formulas (by.Product s) = None

-- what is tried of any two divisors: the sum, and what usual::sum_tried says of two divisors of kind 31
pub record TriedSumOf (g : Ground) (a b : Divisor) (r : SumBy) : Type 0 where
  pub sum : SumOf g a b (tried_sum r)
  pub tried : TriedOf g a b (tried_formulas r)

abbrev pub ProductStarOf : (g : Ground) (a b r : Divisor) → Type 0
ProductStarOf g a b r =
    (A : SumAsked g a b) →
    let S = A.grounded.ready.setting in
    (D : IsDivisor S r) × IsStar (poles_of S) (Product (ring S) (ideal S a A.a_is) (ideal S b A.b_is)) (ideal S r D)

pub record ZeroClass (r : Divisor) : Type 0 where
  pub kind : r.kind ≡ k0
  pub none : numbers_of r ≡ replicate 9 0
