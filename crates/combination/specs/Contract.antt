-- What the functions on combinations of ideals require and ensure.
--   MonicValue p u         u is a monic vector of its degree, which is at most 8
--   value S u              the element of the ring that u stands for
--   MemberIs, MemberOf     member: the member in the class j of a divisor's triple
--   combined S u v I J     u·I + v·J
--   CombinationAsked, CombinationOf    star_of: the ideal of the result is the star of u·I + v·J
--   AddAsked, Added        add: the span afterwards is u·I and the span before, added
use Rattle.std.specs.Prelude.{◌≡◌, List, ℕ, ◌%◌, ◌≤◌}
use Rattle.prime.specs.Prime.{Prime}
use Rattle.field.specs.Residue.{Z}
use Rattle.ideal.specs.Ideal.{SameIdeal}
use Rattle.ideal.specs.Reduced.{IsStar}
use Rattle.ideal.specs.Parts.{IdealSum}
use Rattle.ideal.proofs.Invertible.{Scaled}
use Rattle.curve.specs.Curve.{Curve}
use Rattle.divisor.specs.Kind.{Kind}
use Rattle.divisor.proofs.Table.{degree}
use Rattle.divisor.proofs.Members.{member}
use Rattle.vector.specs.Vector.{Vec, element}
use Rattle.triple.specs.Setting.{Setting, ring, poles_of}
use Rattle.triple.specs.Triple.{Present, Triple, Spanned}
use Rattle.ground.specs.declared.Ground.{Ground}
use Rattle.basis.specs.Divisor.{residues, Shaped}
use Rattle.basis.specs.declared.Divisor.{Divisor}
use Rattle.group.specs.Contract.{IsDivisor, ideal, NegativeAsked, SumAsked}
use Rattle.combination.specs.declared.Polynomial.{Polynomial}

pub record MonicValue (p : ℕ) (u : Polynomial) : Type 0 where
  pub vec : Vec p u.v
  pub present : Present u.v (u.d % 3) u.d
  pub low : u.d ≤ 8

abbrev pub value : {p : ℕ} (S : Setting p) → Polynomial → (ring S).Car
value {p} S u = element p S.curve u.v

pub record MemberIs (p : ℕ) (κ : Kind) (x : Divisor) (j : ℕ) (r : Polynomial) : Type 0 where
  pub monic : MonicValue p r
  pub degree_is : r.d ≡ degree κ j
  pub value_is : (C : Curve (Z p)) → element p C r.v ≡ member C κ (residues p x) j

pub record MemberOf (x : Divisor) (j : ℕ) (r : Polynomial) : Type 0 where
  pub of : (p : ℕ) (κ : Kind) → Prime p → Shaped p κ x → MemberIs p κ x j r

abbrev pub combined : {p : ℕ} (S : Setting p) → Polynomial → Polynomial → ((ring S).Car → Type 0) → ((ring S).Car → Type 0) → (ring S).Car → Type 0
combined S u v I J = IdealSum (ring S) (Scaled (ring S) (value S u) I) (Scaled (ring S) (value S v) J)

pub record CombinationAsked (g : Ground) (u : Polynomial) (x : Divisor) (v : Polynomial) (y : Divisor) : Type 0 where
  pub pair : SumAsked g x y
  pub u_is : MonicValue g.p u
  pub v_is : MonicValue g.p v
  -- v times an element of J of degree 6 has a degree of at most 12
  pub v_low : v.d ≤ 6

abbrev pub CombinationOf : (g : Ground) (u : Polynomial) (x : Divisor) (v : Polynomial) (y r : Divisor) → Type 0
CombinationOf g u x v y r =
    (A : CombinationAsked g u x v y) →
    let S = A.pair.grounded.ready.setting in
    (D : IsDivisor S r) × IsStar (poles_of S) (combined S u v (ideal S x A.pair.a_is) (ideal S y A.pair.b_is)) (ideal S r D)

pub record AddAsked (g : Ground) (u : Polynomial) (x : Divisor) (t : List (List ℕ)) (d : List ℕ) : Type 0 where
  pub asked : NegativeAsked g x
  pub u_is : MonicValue g.p u
  pub triple : Triple g.p t d

pub record Added (g : Ground) (u : Polynomial) (x : Divisor) (t t' : List (List ℕ)) (d' : List ℕ) : Type 0 where
  pub triple : Triple g.p t' d'
  pub same :
      (A : NegativeAsked g x) →
      let S = A.grounded.ready.setting in
      SameIdeal (ring S) (Spanned S t') (IdealSum (ring S) (Scaled (ring S) (value S u) (ideal S x A.a_is)) (Spanned S t))
