-- What the functions on divisors by value require and ensure.
--   coefficients m a0 a3 a4 a7     polynomial: the vector of mono m + a7·xy + a4·y + a3·x + a0
--   vectors κ r, three_degrees κ   the three vectors of a record and their degrees
--   IsTriple κ r t d               triple_0 … triple_31: t and d are these
--   Tripled p κ r t d, TripleOf    triple_of: the vectors stand for the members of the record
--   BasisAsked, BasisTest          is_basis: is the record a basis
use Rattle.std.specs.Prelude.{◌≡◌, Bool, List, [], ◌∷◌, map, ℕ, set, replicate}
use Rattle.algebra.specs.Answers.{Answers}
use Rattle.prime.specs.Prime.{Prime}
use Rattle.field.specs.Residue.{Z}
use Rattle.curve.specs.Curve.{Curve}
use Rattle.divisor.specs.Kind.{Kind, k0, k11, k21, k22, k31, IsBasis}
use Rattle.divisor.proofs.Table.{degree}
use Rattle.divisor.proofs.Members.{members}
use Rattle.vector.specs.Vector.{width, element}
use Rattle.triple.specs.Setting.{Ready}
use Rattle.triple.specs.Triple.{Full}
use Rattle.span.specs.Contract.{Small}
use Rattle.basis.specs.declared.Divisor.{Divisor}
use Rattle.basis.specs.Divisor.{residues, Shaped}

unfoldable pub coefficients : (m a0 a3 a4 a7 : ℕ) → List ℕ
coefficients m a0 a3 a4 a7 = set (set (set (set (set (replicate width 0) 0 a0) 3 a3) 4 a4) 7 a7) m 1

abbrev pub vectors : Kind → Divisor → List (List ℕ)
vectors k0 r = coefficients 0 0 0 0 0 ∷ coefficients 4 0 0 0 0 ∷ coefficients 8 0 0 0 0 ∷ []
vectors k11 r = coefficients 3 r.n0 0 0 0 ∷ coefficients 4 r.n1 0 0 0 ∷ coefficients 8 0 0 r.n1 0 ∷ []
vectors k21 r = coefficients 6 r.n2 r.n3 0 0 ∷ coefficients 4 r.n0 r.n1 0 0 ∷ coefficients 8 0 0 r.n0 r.n1 ∷ []
vectors k22 r = coefficients 3 r.n0 0 0 0 ∷ coefficients 7 0 0 r.n0 0 ∷ coefficients 8 r.n1 0 r.n2 0 ∷ []
vectors k31 r = coefficients 6 r.n0 r.n1 r.n2 0 ∷ coefficients 7 r.n3 r.n4 r.n5 0 ∷ coefficients 8 r.n6 r.n7 r.n8 0 ∷ []

abbrev pub three_degrees : Kind → List ℕ
three_degrees κ = degree κ 0 ∷ degree κ 1 ∷ degree κ 2 ∷ []

pub record IsTriple (κ : Kind) (r : Divisor) (t : List (List ℕ)) (d : List ℕ) : Type 0 where
  pub is_t : t ≡ vectors κ r
  pub is_d : d ≡ three_degrees κ

-- t is a triple with the kind's degrees, and on every curve its vectors stand for the members of the record
pub record Tripled (p : ℕ) (κ : Kind) (r : Divisor) (t : List (List ℕ)) (d : List ℕ) : Type 0 where
  pub full : Full p t d
  pub small : Small d
  pub degrees_are : d ≡ three_degrees κ
  pub members_are : (C : Curve (Z p)) → map (element p C) t ≡ members C κ (residues p r)

pub record TripleOf (r : Divisor) (t : List (List ℕ)) (d : List ℕ) : Type 0 where
  pub of : (p : ℕ) (κ : Kind) → Prime p → Shaped p κ r → Tripled p κ r t d

pub record BasisAsked (p : ℕ) (y3 : List ℕ) (r : Divisor) : Type 0 where
  pub ready : Ready p y3
  pub kind : Kind
  pub shaped : Shaped p kind r

abbrev pub BasisTest : ℕ → List ℕ → Divisor → Bool → Type 0
BasisTest p y3 r b = (R : Ready p y3) (κ : Kind) → Shaped p κ r → Answers (IsBasis R.setting.curve κ (residues p r)) b
