-- What the functions on common parts require and ensure. I and J are the ideals of x and y.
--   PlacesOf κ r           places_of: three different classes, the first that of the least degree
--   LeastOf x r            least: the least element of the ideal of x
--   OverlapOf              overlap: the reduced ideal of u·I + v·J
--   PartOf                 common_part: I + J
--   MeetAsked, MeetOf      meet: the reduced ideal of (u : N) ∩ J, N the ideal of n
--   MultipleOf             common_multiple: the reduced ideal of I ∩ J
--   Smooth S               the curve is nonsingular
--   InsideAsked, ApartOf   apart: for I inside J two divisors whose product is equivalent to I·J, the second of smaller degree than y
use Rattle.std.specs.Prelude.{◌≡◌, ◌⊎◌, ℕ, ◌<◌, ◌≤◌}
use Rattle.ideal.specs.Ideal.{Product, Colon, SameIdeal, Equivalent}
use Rattle.ideal.specs.Reduced.{Least, IsReduced}
use Rattle.ideal.specs.Parts.{IdealSum, Intersection}
use Rattle.nonsingular.specs.Nonsingular.{Nonsingular}
use Rattle.kind.specs.Kinds.{degree_of}
use Rattle.divisor.specs.Kind.{Kind, k0}
use Rattle.divisor.proofs.Table.{degree}
use Rattle.triple.specs.Setting.{Setting, ring, poles_of}
use Rattle.ground.specs.declared.Ground.{Ground}
use Rattle.basis.specs.declared.Divisor.{Divisor}
use Rattle.group.specs.Contract.{IsDivisor, ideal, SumAsked}
use Rattle.combination.specs.Contract.{MonicValue, value, combined, CombinationAsked}
use Rattle.combination.specs.declared.Polynomial.{Polynomial}
use Rattle.parts.specs.declared.Places.{Places}
use Rattle.parts.specs.declared.Parts.{Parts}

pub record PlacesOf (κ : Kind) (r : Places) : Type 0 where
  pub first_below : r.first < 3
  pub second_below : r.second < 3
  pub third_below : r.third < 3
  pub all : (j : ℕ) → j < 3 → (j ≡ r.first) ⊎ ((j ≡ r.second) ⊎ (j ≡ r.third))
  pub lowest : (j : ℕ) → j < 3 → degree κ r.first ≤ degree κ j

pub record LeastIs {p : ℕ} (S : Setting p) (x : Divisor) (D : IsDivisor S x) (r : Polynomial) : Type 0 where
  pub monic : MonicValue p r
  pub low : r.d ≤ 6
  pub least : Least (poles_of S) (ideal S x D) (value S r)

abbrev pub LeastOf : (x : Divisor) (r : Polynomial) → Type 0
LeastOf x r = (p : ℕ) (S : Setting p) (D : IsDivisor S x) → LeastIs S x D r

abbrev pub OverlapOf : (g : Ground) (u : Polynomial) (x : Divisor) (v : Polynomial) (y r : Divisor) → Type 0
OverlapOf g u x v y r =
    (A : CombinationAsked g u x v y) →
    let S = A.pair.grounded.ready.setting in
    (D : IsDivisor S r) × IsReduced (poles_of S) (combined S u v (ideal S x A.pair.a_is) (ideal S y A.pair.b_is)) (ideal S r D)

abbrev pub PartOf : (g : Ground) (x y r : Divisor) → Type 0
PartOf g x y r =
    (A : SumAsked g x y) →
    let S = A.grounded.ready.setting in
    (D : IsDivisor S r) × SameIdeal (ring S) (ideal S r D) (IdealSum (ring S) (ideal S x A.a_is) (ideal S y A.b_is))

pub record MeetAsked (g : Ground) (u : Polynomial) (n y : Divisor) : Type 0 where
  pub pair : SumAsked g n y
  pub u_is : MonicValue g.p u
  pub u_in : let S = pair.grounded.ready.setting in ideal S n pair.a_is (value S u)

abbrev pub MeetOf : (g : Ground) (u : Polynomial) (n y r : Divisor) → Type 0
MeetOf g u n y r =
    (A : MeetAsked g u n y) →
    let S = A.pair.grounded.ready.setting in
    (D : IsDivisor S r)
    × IsReduced (poles_of S) (Intersection (ring S) (Colon (ring S) (value S u) (ideal S n A.pair.a_is)) (ideal S y A.pair.b_is)) (ideal S r D)

abbrev pub MultipleOf : (g : Ground) (x y r : Divisor) → Type 0
MultipleOf g x y r =
    (A : SumAsked g x y) →
    let S = A.grounded.ready.setting in
    (D : IsDivisor S r) × IsReduced (poles_of S) (Intersection (ring S) (ideal S x A.a_is) (ideal S y A.b_is)) (ideal S r D)

abbrev pub Smooth : {p : ℕ} → Setting p → Type 0
Smooth S = Nonsingular S.curve

-- I lies inside J, and J is not the whole ring
pub record InsideAsked (g : Ground) (x y : Divisor) : Type 0 where
  pub pair : SumAsked g x y
  pub smooth : Smooth pair.grounded.ready.setting
  pub inside :
      let S = pair.grounded.ready.setting in
      (h : (ring S).Car) → ideal S x pair.a_is h → ideal S y pair.b_is h
  pub some : ¬ (y.kind ≡ k0)

pub record ApartIs (g : Ground) (x y : Divisor) (A : InsideAsked g x y) (r : Parts) : Type 0 where
  pub multiple_is : IsDivisor A.pair.grounded.ready.setting r.multiple
  pub part_is : IsDivisor A.pair.grounded.ready.setting r.part
  pub class :
      let S = A.pair.grounded.ready.setting in
      Equivalent (ring S) (Product (ring S) (ideal S r.multiple multiple_is) (ideal S r.part part_is))
      (Product (ring S) (ideal S x A.pair.a_is) (ideal S y A.pair.b_is))
  pub smaller : degree_of r.part.kind < degree_of y.kind

abbrev pub ApartOf : (g : Ground) (x y : Divisor) (r : Parts) → Type 0
ApartOf g x y r = (A : InsideAsked g x y) → ApartIs g x y A r
