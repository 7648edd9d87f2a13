-- A certificate that f is in I·(f : I), I the ideal of a record and f its first polynomial, and the tests that it has to pass. The tests compute.
--   Relation               multiples of the polynomials and of F whose sum has remaining monomials only, and so is zero on the curve
--   multiple κ r, total κ r        the multiples of the polynomials, and with that of F; both are zero on the curve
--   Quotient, Member       an element of (f : I), and for each polynomial g: g·element = f·quotient + multiples of what is zero
--   Row                    f·F' = the sum of (multiples of the polynomials)·element over the members + multiples of what is zero
--   Certificate            the relations, the members, and a row for each derivative of F
--   form κ i               the i-th polynomial of a record; f is form κ 0
--   of-F, syzygy, over, own        relations with and without F, a quotient, and f as a member
--   totals, zeros          the totals of the relations, and their multiples of the polynomials
--   divides, combination   the test of a member; the sum of a row
--   member_test, row_test, valid   the tests of a certificate: of a member, of a row, all
use mathlib.Core.Bool.{Bool, true, false}
use mathlib.Core.List.{List, [], ◌∷◌, ◌++◌, map}
use Prim.Native.Nat.{ℕ}
use lib.ListN.{get_or}
use Rattle.algebra.proofs.Norm.{E, nil, unit, same}
use Rattle.algebra.proofs.Test.{both}
use Rattle.algebra.proofs.Solve.{◌⊞◌, ◌⊠◌, ⊟◌, combine}
use Rattle.ideal.proofs.Every.{all}
use Rattle.divisor.specs.Kind.{Kind}
use Rattle.expressions.proofs.Letters.{F, derivative}
use Rattle.invertible.proofs.Formula.{forms}
use Rattle.invertible.proofs.Vanish.{flat}

pub record Relation : Type 0 where
  pub cofactors : List E
  pub factor : E

pub record Quotient : Type 0 where
  pub quotient : E
  pub rest : List E

pub record Member : Type 0 where
  pub element : E
  pub quotients : List Quotient

pub record Row : Type 0 where
  pub multiples : List (List E)
  pub rest : List E

pub record Certificate : Type 0 where
  pub relations : List Relation
  pub members : List Member
  pub row : ℕ → Row

-- cofactors·polynomials = F on the plane, but for remaining monomials
abbrev pub of-F : List E → Relation
of-F es = record { cofactors = es; factor = ⊟ unit }

-- cofactors·polynomials = 0 on the plane, but for remaining monomials
abbrev pub syzygy : List E → Relation
syzygy es = record { cofactors = es; factor = nil }

abbrev pub form : Kind → ℕ → E
form κ i = get_or (forms κ) i nil

abbrev pub over : E → List E → Quotient
over q ms = record { quotient = q; rest = ms }

-- f is in (f : I)
abbrev pub own : Kind → Member
own κ = record { element = form κ 0; quotients = map (λ g. over g []) (forms κ) }

abbrev pub multiple : Kind → Relation → E
multiple κ r = combine (forms κ) r.cofactors

abbrev pub total : Kind → Relation → E
total κ r = multiple κ r ⊞ r.factor ⊠ F

-- w is in (f : I), for polynomials gs, their quotients, and what is zero on the curve
abbrev pub divides : E → List E → E → List E → List Quotient → Bool
divides f zs w [] qs = true
divides f zs w (g ∷ gs) [] = false
divides f zs w (g ∷ gs) (q ∷ qs) = both (same (g ⊠ w) (f ⊠ q.quotient ⊞ combine zs q.rest)) (divides f zs w gs qs)

abbrev pub combination : List E → List (List E) → List Member → E
combination gs [] ms = nil
combination gs (es ∷ ess) [] = nil
combination gs (es ∷ ess) (m ∷ ms) = combine gs es ⊠ m.element ⊞ combination gs ess ms

module _ (κ : Kind) (K : Certificate) where
  abbrev pub totals : List E
  totals = map (total κ) K.relations

  abbrev pub zeros : List E
  zeros = map (multiple κ) K.relations

  abbrev pub member_test : Member → Bool
  member_test m = divides (form κ 0) zeros m.element (forms κ) m.quotients

  abbrev pub row_test : ℕ → Bool
  row_test v =
      same (derivative v F ⊠ form κ 0) (combination (forms κ) (K.row v).multiples K.members ⊞ combine (zeros ++ map (derivative v) totals) (K.row v).rest)

  abbrev pub valid : Bool
  valid = both (all (flat κ) totals) (both (all member_test K.members) (both (row_test 0) (row_test 1)))
