-- The certificates of the five kinds.
--
-- Kinds 11, 21 and 22: F = a·f + b·g but for remaining monomials. On the curve b·g = −a·f, so b is in (f : I), and by Leibniz's rule
--   f·F' = (a'·f + b'·g)·f + (g'·f − f'·g)·b
-- Kind 31: F = r·f + s·g + t·h but for remaining monomials, and two more combinations of f, g and h have remaining monomials only. The cofactors are the rows of
-- a matrix; p and q are two columns of its adjugate matrix. (For a basis the third column is f, g, h and the determinant is F: a picture, and no step of the proof.)
-- On the curve f·p = p0·(f, g, h) and f·q = q0·(f, g, h), so p0 and q0 are in (f : I), and
--   f·Fx = (r'·f + t'·h)·f − g·p0 − h·q0 for the derivatives by x        f·Fy = (r'·f + t'·h)·f + f·p0 + g·q0 for those by y
--
--   pair κ a b             the certificate of kinds 11, 21 and 22
--   a-line, b_11, b_22, a_21, b_21     their cofactors of F
--   f0 … h2, r, s, t, …    the letters and formulas of kind 31
--   certificate κ          the certificate of the kind
--   certified κ            it passes the tests
use mathlib.Core.List.{[], ◌∷◌, map}
use Prim.Native.Nat.{ℕ, zero, suc}
use lib.Dec.{T}
use Rattle.algebra.proofs.Norm.{E, num, nil, unit}
use Rattle.algebra.proofs.Solve.{◌⊞◌, ◌⊠◌, ⊟◌, ◌^^◌}
use Rattle.divisor.specs.Kind.{Kind, k0, k11, k21, k22, k31}
use Rattle.divisor.proofs.Table.{kind_by}
use Rattle.expressions.proofs.Letters.{◌⊝◌, x, y, a0, c, n, F, derivative}
use Rattle.invertible.proofs.Certificate.{Row, Certificate, form, of-F, syzygy, over, own, valid}

abbrev whole : Certificate
whole =
    record {
      relations = [];
      members = own k0 ∷ [];
      row = λ v. record { multiples = (derivative v F ∷ []) ∷ []; rest = [] };
    }

abbrev pair : Kind → E → E → Certificate
pair κ a b =
    record {
      relations = of-F (a ∷ b ∷ []) ∷ [];
      members = own κ ∷ record { element = b; quotients = over b [] ∷ over (⊟ a) (unit ∷ []) ∷ [] } ∷ [];
      row = λ w. record {
        multiples = (derivative w a ∷ derivative w b ∷ []) ∷ (derivative w (form κ 1) ∷ ⊟ derivative w (form κ 0) ∷ []) ∷ [];
        rest = derivative w (form κ 0) ∷ ⊟ form κ 0 ∷ [];
      };
    }

-- a of kinds 11 and 22, where f = x + n0
abbrev a-line : E
a-line =
    a0 ⊠ x ^^ 3 ⊞ (c 6 ⊝ a0 ⊠ n 0) ⊠ x ^^ 2 ⊞ c 7 ⊠ x ⊠ y ⊞ c 8 ⊠ y ^^ 2 ⊞ (c 3 ⊝ c 6 ⊠ n 0 ⊞ a0 ⊠ n 0 ^^ 2) ⊠ x ⊞ (c 4 ⊝ c 7 ⊠ n 0) ⊠ y
    ⊞ c 1 ⊝ c 3 ⊠ n 0 ⊞ c 6 ⊠ n 0 ^^ 2 ⊝ a0 ⊠ n 0 ^^ 3

abbrev b_11 : E
b_11 =
    let K : E = c 5 ⊝ c 8 ⊠ n 0 ⊝ n 1 in
    y ^^ 2 ⊞ K ⊠ y ⊞ c 2 ⊝ c 4 ⊠ n 0 ⊞ c 7 ⊠ n 0 ^^ 2 ⊝ K ⊠ n 1

abbrev b_22 : E
b_22 = y ⊞ c 5 ⊝ c 8 ⊠ n 0 ⊝ n 2

abbrev a_21 : E
a_21 =
    y ^^ 2 ⊞ (c 8 ⊝ n 1) ⊠ x ⊠ y ⊞ (c 7 ⊝ c 8 ⊠ n 1 ⊞ n 1 ^^ 2) ⊠ x ^^ 2 ⊞ (c 5 ⊝ n 0) ⊠ y ⊞ (c 4 ⊝ c 5 ⊠ n 1 ⊝ c 8 ⊠ n 0 ⊞ num 2 ⊠ n 0 ⊠ n 1) ⊠ x
    ⊞ c 2 ⊝ c 5 ⊠ n 0 ⊞ n 0 ^^ 2

abbrev b_21 : E
b_21 =
    let K : E = c 6 ⊝ c 7 ⊠ n 1 ⊞ c 8 ⊠ n 1 ^^ 2 ⊝ n 1 ^^ 3 ⊝ a0 ⊠ n 3 in
    a0 ⊠ x ^^ 2 ⊞ K ⊠ x ⊞ c 3 ⊝ c 4 ⊠ n 1 ⊞ c 5 ⊠ n 1 ^^ 2 ⊝ c 7 ⊠ n 0 ⊞ num 2 ⊠ c 8 ⊠ n 0 ⊠ n 1 ⊝ num 3 ⊠ n 0 ⊠ n 1 ^^ 2 ⊝ a0 ⊠ n 2 ⊝ n 3 ⊠ K

-- kind 31, its numbers by their names
abbrev f0 : E
f0 = n 0

abbrev f1 : E
f1 = n 1

abbrev f2 : E
f2 = n 2

abbrev g1 : E
g1 = n 4

abbrev g2 : E
g2 = n 5

abbrev h1 : E
h1 = n 7

abbrev h2 : E
h2 = n 8

abbrev R2 : E
R2 = c 7 ⊝ a0 ⊠ f2

abbrev R1 : E
R1 = c 6 ⊝ a0 ⊠ f1

-- the matrix (y + g1, −u, −f2), (h1, v, −(x + g2)), (r, s, t)
abbrev u : E
u = x ⊞ f1 ⊝ g2

abbrev v : E
v = y ⊞ h2 ⊝ g1

abbrev r : E
r = a0 ⊠ x ^^ 2 ⊞ R2 ⊠ y ⊞ R1 ⊠ x ⊞ c 3 ⊝ f1 ⊠ R1 ⊝ c 8 ⊠ h1 ⊝ a0 ⊠ f0

abbrev s : E
s = c 4 ⊝ h1 ⊝ f2 ⊠ R1 ⊝ f1 ⊠ R2 ⊝ c 8 ⊠ h2

abbrev t : E
t = y ⊞ c 8 ⊠ x ⊞ c 5 ⊝ h2 ⊝ f2 ⊠ R2

-- two columns of its adjugate matrix
abbrev p0 : E
p0 = v ⊠ t ⊞ (x ⊞ g2) ⊠ s

abbrev p1 : E
p1 = ⊟ ((x ⊞ g2) ⊠ r) ⊝ h1 ⊠ t

abbrev p2 : E
p2 = h1 ⊠ s ⊝ v ⊠ r

abbrev q0 : E
q0 = u ⊠ t ⊝ f2 ⊠ s

abbrev q1 : E
q1 = (y ⊞ g1) ⊠ t ⊞ f2 ⊠ r

abbrev q2 : E
q2 = ⊟ (u ⊠ r) ⊝ (y ⊞ g1) ⊠ s

-- the rows of the derivatives by x and by y
abbrev adjugate_row : ℕ → Row
adjugate_row zero =
    record {
      multiples = map (derivative 0) (r ∷ s ∷ t ∷ []) ∷ (nil ∷ ⊟ unit ∷ []) ∷ (nil ∷ nil ∷ ⊟ unit ∷ []) ∷ [];
      rest = derivative 0 (form k31 0) ∷ s ∷ t ∷ ⊟ form k31 0 ∷ [];
    }
adjugate_row (suc w) =
    record {
      multiples = map (derivative 1) (r ∷ s ∷ t ∷ []) ∷ (unit ∷ []) ∷ (nil ∷ unit ∷ []) ∷ [];
      rest = derivative 1 (form k31 0) ∷ t ∷ nil ∷ ⊟ form k31 0 ∷ [];
    }

abbrev adjugate : Certificate
adjugate =
    record {
      relations = of-F (r ∷ s ∷ t ∷ []) ∷ syzygy ((y ⊞ g1) ∷ ⊟ u ∷ ⊟ f2 ∷ []) ∷ syzygy (h1 ∷ v ∷ ⊟ (x ⊞ g2) ∷ []) ∷ [];
      members = own k31
          ∷ record { element = p0; quotients = over p0 [] ∷ over p1 ((x ⊞ g2) ∷ nil ∷ t ∷ []) ∷ over p2 (v ∷ nil ∷ ⊟ s ∷ []) ∷ [] }
          ∷ record { element = q0; quotients = over q0 [] ∷ over q1 (⊟ f2 ∷ ⊟ t ∷ []) ∷ over q2 (u ∷ s ∷ []) ∷ [] }
          ∷ [];
      row = adjugate_row;
    }

abbrev pub certificate : Kind → Certificate
certificate k0 = whole
certificate k11 = pair k11 a-line b_11
certificate k21 = pair k21 a_21 b_21
certificate k22 = pair k22 a-line b_22
certificate k31 = adjugate

pub certified : (κ : Kind) → T (valid κ (certificate κ))
certified = kind_by (λ κ. T (valid κ (certificate κ))) tt tt tt tt tt
