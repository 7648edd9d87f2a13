-- The certificates of the worked sums: expressions in x and y over the whole numbers, read modulo p on the curve.
--   on_E, on_D                     s and t with s·Fx + t·Fy = 1
--   point_1 … twice_origin         how y times each member of a record is made of its members, with factors in x
--   join_2 … join_origin           how the product of two records' ideals and the ideal of their sum hold each other, up to α and β
--   over_x, node_2, node_3, node_outside           a negative, singular points
--   not_origin … not_outside, first-large, second-large    records that are no basis, or have a number not below p
--   certificates, trap_certificates    one for each row of the tables, the next one behind &
use mathlib.Core.List.{List, [], ◌∷◌}
use Rattle.algebra.proofs.Norm.{E, num, nil, unit}
use Rattle.algebra.proofs.Solve.{◌⊞◌, ◌⊠◌, ◌^^◌}
use Rattle.ideal.proofs.Every.{Every}
use Rattle.divisor.specs.Kind.{Kind, k0, k11, k21, k22, k31}
use Rattle.worked.specs.Table.{divisor, table, traps}
use Rattle.worked.proofs.Vanish.{x, y}
use Rattle.worked.proofs.Accepted.{Smooth, Singular, Known, Spoilt, too_large, no_basis}
use Rattle.worked.proofs.Link.{Link}
use Rattle.worked.proofs.Rows.{Step, Certificate}

infixr 20 ◌&◌
abbrev ◌&◌ : {A B : Type 0} → A → B → A × B
a & b = (a, b)

abbrev pub known_as : Kind → List (List E) → Known
known_as κ qss = record { kind = κ; closed = qss }

abbrev pub linked_by : (α β : E) (there back : List (List E)) → Link
linked_by α β there back = record { α = α; β = β; there = there; back = back }

-- Fx = 4x³ and Fy = 3y² on E, and Fx = 1 on D
abbrev pub on_E : Smooth
on_E = record { s = x; t = num 3 ⊠ y }

abbrev on_D : Smooth
on_D = record { s = unit; t = nil }

-- the points (1, 2), (2, 2), (3, 2), (4, 2) and P
abbrev point_1 : Known
point_1 =
    known_as k11
    ((num 2 ∷ (x ⊞ num 4) ∷ nil ∷ [])
    ∷ (nil ∷ nil ∷ unit ∷ [])
    ∷ ((num 4 ⊠ x ^^ 3 ⊞ num 4 ⊠ x ^^ 2 ⊞ num 4 ⊠ x ⊞ num 4) ∷ unit ∷ num 3 ∷ [])
    ∷ [])

abbrev point_2 : Known
point_2 =
    known_as k11
    ((num 2 ∷ (x ⊞ num 3) ∷ nil ∷ [])
    ∷ (nil ∷ nil ∷ unit ∷ [])
    ∷ ((num 4 ⊠ x ^^ 3 ⊞ num 3 ⊠ x ^^ 2 ⊞ x ⊞ num 2) ∷ unit ∷ num 3 ∷ [])
    ∷ [])

abbrev point_3 : Known
point_3 =
    known_as k11
    ((num 2 ∷ (x ⊞ num 2) ∷ nil ∷ [])
    ∷ (nil ∷ nil ∷ unit ∷ [])
    ∷ ((num 4 ⊠ x ^^ 3 ⊞ num 2 ⊠ x ^^ 2 ⊞ x ⊞ num 3) ∷ unit ∷ num 3 ∷ [])
    ∷ [])

abbrev point_4 : Known
point_4 =
    known_as k11
    ((num 2 ∷ (x ⊞ unit) ∷ nil ∷ [])
    ∷ (nil ∷ nil ∷ unit ∷ [])
    ∷ ((num 4 ⊠ x ^^ 3 ⊞ x ^^ 2 ⊞ num 4 ⊠ x ⊞ unit) ∷ unit ∷ num 3 ∷ [])
    ∷ [])

abbrev pub point-P : Known
point-P =
    known_as k11
    ((num 4 ∷ x ∷ nil ∷ [])
    ∷ (nil ∷ nil ∷ unit ∷ [])
    ∷ ((num 4 ⊠ x ^^ 3) ∷ num 4 ∷ unit ∷ [])
    ∷ [])

-- (1, 2) + (2, 2), then + (3, 2)
abbrev two_points : Known
two_points =
    known_as k21
    ((num 2 ∷ (x ^^ 2 ⊞ num 2 ⊠ x ⊞ num 2) ∷ nil ∷ [])
    ∷ (nil ∷ nil ∷ unit ∷ [])
    ∷ ((num 4 ⊠ x ^^ 2 ⊞ num 2 ⊠ x ⊞ num 3) ∷ unit ∷ num 3 ∷ [])
    ∷ [])

abbrev three_points : Known
three_points =
    known_as k22
    ((nil ∷ unit ∷ nil ∷ [])
    ∷ (unit ∷ num 3 ∷ (x ⊞ unit) ∷ [])
    ∷ ((num 4 ⊠ x ^^ 3 ⊞ x ^^ 2 ⊞ num 4 ⊠ x ⊞ unit) ∷ nil ∷ num 2 ∷ [])
    ∷ [])

-- 2P, and 3P = −P
abbrev twice-P : Known
twice-P =
    known_as k21
    ((num 4 ∷ (x ^^ 2) ∷ nil ∷ [])
    ∷ (nil ∷ nil ∷ unit ∷ [])
    ∷ ((num 4 ⊠ x ^^ 2) ∷ num 4 ∷ unit ∷ [])
    ∷ [])

abbrev thrice-P : Known
thrice-P =
    known_as k22
    ((nil ∷ unit ∷ nil ∷ [])
    ∷ (num 4 ∷ unit ∷ x ∷ [])
    ∷ ((num 4 ⊠ x ^^ 3) ∷ nil ∷ num 4 ∷ [])
    ∷ [])

-- (1, 2) − P
abbrev pub difference : Known
difference =
    known_as k31
    ((num 2 ∷ (x ⊞ num 4) ∷ nil ∷ [])
    ∷ (num 3 ∷ num 4 ∷ x ∷ [])
    ∷ ((num 4 ⊠ x ^^ 2 ⊞ num 4 ⊠ x ⊞ num 4) ∷ num 2 ∷ num 4 ∷ [])
    ∷ [])

-- 21: 0 0 2 0
abbrev outside : Known
outside =
    known_as k21
    ((nil ∷ (x ^^ 2 ⊞ num 2) ∷ nil ∷ [])
    ∷ (nil ∷ nil ∷ unit ∷ [])
    ∷ ((num 4 ⊠ x ^^ 2 ⊞ num 2) ∷ nil ∷ nil ∷ [])
    ∷ [])

-- the zero class on E
abbrev zero-E : Known
zero-E =
    known_as k0
    ((nil ∷ unit ∷ nil ∷ [])
    ∷ (nil ∷ nil ∷ unit ∷ [])
    ∷ ((num 4 ⊠ x ^^ 4 ⊞ num 4) ∷ nil ∷ nil ∷ [])
    ∷ [])

-- (0, 0), twice (0, 0) and the zero class on D
abbrev origin : Known
origin =
    known_as k11
    ((nil ∷ x ∷ nil ∷ [])
    ∷ (nil ∷ nil ∷ unit ∷ [])
    ∷ ((x ^^ 3 ⊞ unit) ∷ nil ∷ nil ∷ [])
    ∷ [])

abbrev twice_origin : Known
twice_origin =
    known_as k22
    ((nil ∷ unit ∷ nil ∷ [])
    ∷ (nil ∷ nil ∷ x ∷ [])
    ∷ ((x ^^ 3 ⊞ unit) ∷ nil ∷ nil ∷ [])
    ∷ [])

abbrev zero-D : Known
zero-D =
    known_as k0
    ((nil ∷ unit ∷ nil ∷ [])
    ∷ (nil ∷ nil ∷ unit ∷ [])
    ∷ ((x ^^ 4 ⊞ x) ∷ nil ∷ nil ∷ [])
    ∷ [])

-- (1, 2) + (2, 2)
abbrev join_2 : Link
join_2 =
    linked_by unit unit
    ((nil ∷ unit ∷ [])
    ∷ ((x ⊞ num 4) ∷ nil ∷ [])
    ∷ ((x ⊞ num 3) ∷ nil ∷ [])
    ∷ ((y ⊞ num 3) ∷ nil ∷ [])
    ∷ [])
    ((nil ∷ unit ∷ num 4 ∷ nil ∷ [])
    ∷ (unit ∷ nil ∷ nil ∷ nil ∷ [])
    ∷ [])

-- … + (3, 2)
abbrev join_3 : Link
join_3 =
    linked_by (x ⊞ unit) (y ⊞ num 3)
    (((x ⊞ num 2) ∷ nil ∷ [])
    ∷ ((y ⊞ num 3) ∷ nil ∷ [])
    ∷ (nil ∷ num 4 ∷ [])
    ∷ ((x ^^ 2 ⊞ num 2 ⊠ x ⊞ num 2) ∷ nil ∷ [])
    ∷ [])
    (((num 2 ⊠ x) ∷ nil ∷ nil ∷ num 3 ∷ [])
    ∷ (nil ∷ nil ∷ num 4 ∷ nil ∷ [])
    ∷ [])

-- … + (4, 2)
abbrev join_4 : Link
join_4 =
    linked_by unit (x ⊞ unit)
    (((x ⊞ unit) ∷ [])
    ∷ ((y ⊞ num 3) ∷ [])
    ∷ ((y ^^ 2 ⊞ num 2 ⊠ y ⊞ num 4) ∷ [])
    ∷ ((num 4 ⊠ x ^^ 3 ⊞ x ^^ 2 ⊞ num 4 ⊠ x ⊞ unit) ∷ [])
    ∷ [])
    ((nil ∷ (num 2 ⊠ y ⊞ num 3) ∷ num 3 ∷ nil ∷ [])
    ∷ [])

-- P + P, 2P + P, 3P + P
abbrev join_2P : Link
join_2P =
    linked_by unit unit
    ((nil ∷ unit ∷ [])
    ∷ (x ∷ nil ∷ [])
    ∷ (x ∷ nil ∷ [])
    ∷ ((y ⊞ unit) ∷ nil ∷ [])
    ∷ [])
    (((num 3 ⊠ x ^^ 2) ∷ nil ∷ nil ∷ (num 3 ⊠ y ⊞ num 4) ∷ [])
    ∷ (unit ∷ nil ∷ nil ∷ nil ∷ [])
    ∷ [])

abbrev join_3P : Link
join_3P =
    linked_by x (y ⊞ unit)
    ((x ∷ nil ∷ [])
    ∷ ((y ⊞ unit) ∷ nil ∷ [])
    ∷ (nil ∷ num 4 ∷ [])
    ∷ ((x ^^ 2) ∷ nil ∷ [])
    ∷ [])
    ((nil ∷ (num 3 ⊠ y ⊞ num 4) ∷ (num 3 ⊠ x) ∷ nil ∷ [])
    ∷ (nil ∷ nil ∷ num 4 ∷ nil ∷ [])
    ∷ [])

abbrev join_4P : Link
join_4P =
    linked_by unit x
    ((x ∷ [])
    ∷ ((y ⊞ unit) ∷ [])
    ∷ ((y ^^ 2 ⊞ num 4 ⊠ y ⊞ unit) ∷ [])
    ∷ ((num 4 ⊠ x ^^ 3) ∷ [])
    ∷ [])
    ((nil ∷ (num 3 ⊠ y ⊞ num 4) ∷ num 2 ∷ nil ∷ [])
    ∷ [])

-- (1, 2) + (−P)
abbrev join_difference : Link
join_difference =
    linked_by unit unit
    ((unit ∷ nil ∷ nil ∷ [])
    ∷ (num 3 ∷ nil ∷ (x ⊞ num 4) ∷ [])
    ∷ (nil ∷ unit ∷ nil ∷ [])
    ∷ (nil ∷ num 3 ∷ (y ⊞ num 3) ∷ [])
    ∷ [])
    ((unit ∷ nil ∷ nil ∷ nil ∷ [])
    ∷ (nil ∷ nil ∷ unit ∷ nil ∷ [])
    ∷ (nil ∷ num 4 ∷ (y ⊞ unit) ∷ nil ∷ [])
    ∷ [])

-- (0, 0) + (0, 0) on D, and (0, 0) once more
abbrev join_origin : Link
join_origin =
    linked_by unit unit
    ((x ∷ nil ∷ [])
    ∷ (y ∷ nil ∷ [])
    ∷ (y ∷ nil ∷ [])
    ∷ (nil ∷ unit ∷ [])
    ∷ [])
    (((x ^^ 2) ∷ nil ∷ nil ∷ y ∷ [])
    ∷ (nil ∷ nil ∷ nil ∷ unit ∷ [])
    ∷ [])

abbrev join_zero : Link
join_zero =
    linked_by unit x
    ((x ∷ [])
    ∷ (y ∷ [])
    ∷ ((y ^^ 2) ∷ [])
    ∷ ((x ^^ 3 ⊞ unit) ∷ [])
    ∷ [])
    (((x ^^ 2) ∷ nil ∷ nil ∷ unit ∷ [])
    ∷ [])

-- the products of the polynomials of 3P and P, over x
abbrev over_x : List E
over_x = x ∷ (y ⊞ unit) ∷ (y ^^ 2 ⊞ num 4 ⊠ y ⊞ unit) ∷ (num 4 ⊠ x ^^ 3) ∷ []

-- 1 is made of the polynomials of 11: 0 0, of 21: 3 0 0 0, of 11: 4 4 and of 21: 4 0 2 0 on E
abbrev not_origin : Spoilt
not_origin = record { kind = k11; fault = no_basis ((num 4 ⊠ x ^^ 3) ∷ (num 4 ⊠ y ^^ 2) ∷ []) }

abbrev not_line : Spoilt
not_line = record { kind = k21; fault = no_basis ((y ^^ 2 ⊞ num 2 ⊠ y ⊞ num 4) ∷ (x ^^ 2) ∷ []) }

abbrev not_one-one : Spoilt
not_one-one =
    record {
      kind = k11;
      fault = no_basis ((num 3 ⊠ x ^^ 3 ⊞ num 3 ⊠ x ^^ 2 ⊞ num 3 ⊠ x ⊞ num 3) ∷ (num 3 ⊠ y ^^ 2 ⊞ num 3 ⊠ y ⊞ num 3) ∷ []);
    }

abbrev not_outside : Spoilt
not_outside = record { kind = k21; fault = no_basis ((num 4 ⊠ y ^^ 2 ⊞ num 4 ⊠ y ⊞ num 4) ∷ (num 4 ⊠ x ^^ 2 ⊞ num 2) ∷ []) }

-- the first, the second number of a record 11 is not below p
abbrev first-large : Spoilt
first-large = record { kind = k11; fault = too_large 0 }

abbrev second-large : Spoilt
second-large = record { kind = k11; fault = too_large 1 }

-- the singular points of y³ + x⁴ + 1: (1, 0) for p = 2 and (0, 2) for p = 3; those of y³ + x⁴ + x² + 1 for p = 2, as 21: 0 0 1 1
abbrev node_2 : Singular
node_2 =
    record {
      kind = k11;
      numbers = 1 ∷ 0 ∷ [];
      closed =
          (nil ∷ (x ⊞ unit) ∷ nil ∷ [])
          ∷ (nil ∷ nil ∷ unit ∷ [])
          ∷ ((x ^^ 3 ⊞ x ^^ 2 ⊞ x ⊞ unit) ∷ nil ∷ nil ∷ [])
          ∷ [];
      by_x = nil ∷ nil ∷ [];
      by_y = nil ∷ y ∷ [];
    }

abbrev node_3 : Singular
node_3 =
    record {
      kind = k11;
      numbers = 0 ∷ 1 ∷ [];
      closed =
          (num 2 ∷ x ∷ nil ∷ [])
          ∷ (nil ∷ nil ∷ unit ∷ [])
          ∷ ((num 2 ⊠ x ^^ 3) ∷ num 2 ∷ unit ∷ [])
          ∷ [];
      by_x = (x ^^ 2) ∷ nil ∷ [];
      by_y = nil ∷ nil ∷ [];
    }

abbrev node_outside : Singular
node_outside =
    record {
      kind = k21;
      numbers = 0 ∷ 0 ∷ 1 ∷ 1 ∷ [];
      closed =
          (nil ∷ (x ^^ 2 ⊞ x ⊞ unit) ∷ nil ∷ [])
          ∷ (nil ∷ nil ∷ unit ∷ [])
          ∷ ((x ^^ 2 ⊞ x ⊞ unit) ∷ nil ∷ nil ∷ [])
          ∷ [];
      by_x = nil ∷ nil ∷ [];
      by_y = y ∷ nil ∷ [];
    }

-- the steps to 2P and 3P, and to twice (0, 0) on D
abbrev to_2P : Step
to_2P = record { result = divisor k21 (1 ∷ 0 ∷ 0 ∷ 0 ∷ []); kept = twice-P; made = join_2P }

abbrev to_3P : Step
to_3P = record { result = divisor k22 (0 ∷ 1 ∷ 4 ∷ []); kept = thrice-P; made = join_3P }

abbrev to_origin : Step
to_origin = record { result = divisor k22 (0 ∷ 0 ∷ 0 ∷ []); kept = twice_origin; made = join_origin }

abbrev pub certificates : Every Certificate table
certificates =
    (on_E, point_1)
    & (on_E, point_2)
    & (on_E, point_3)
    & (on_E, point_4)
    & (on_E, point-P)
    & (on_E, point_1, point_2, two_points, join_2)
    & (on_E, two_points, point_3, three_points, join_3)
    & (on_E, three_points, point_4, zero-E, join_4)
    & (on_E, point-P, twice-P, join_2P)
    & (on_E, point-P, [], twice-P, join_2P)
    & (on_E, point-P, to_2P ∷ [], thrice-P, join_3P)
    & (on_E, point-P, to_2P ∷ to_3P ∷ [], zero-E, join_4P)
    & (on_E, point-P, thrice-P, over_x)
    & (on_E, point_1, thrice-P, difference, join_difference)
    & (on_E, not_origin)
    & (on_E, not_line)
    & (on_E, first-large)
    & (on_E, second-large)
    & (on_E, first-large)
    & (on_E, point_1)
    & (on_E, not_one-one)
    & node_2
    & node_3
    & on_D
    & (on_D, origin)
    & (on_D, origin, twice_origin, join_origin)
    & (on_D, origin, [], twice_origin, join_origin)
    & (on_D, origin, to_origin ∷ [], zero-D, join_zero)
    & tt

abbrev pub trap_certificates : Every Certificate traps
trap_certificates = node_outside & (on_E, not_outside) & (on_E, outside) & tt
