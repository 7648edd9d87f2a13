-- Document 02, 2026-02: on E the record of y + 1 and x² has the point (0, 4) twice and no other point over the field, and the sum of the
-- points (1, 2) and (2, 2) is 21: 3 0 2 2.
--   points-written     points_of writes the points that a divisor has
--   double-inside      y + 1 and x² lie inside the square of the ideal of (0, 4)
--   sum_row            the row of (1, 2) + (2, 2) in the table of document 01
--   double-has, points_of-two      the examples hold by the definitions, and the calls answer accordingly
-- double-inside: the ideal holds x and y + 1, and y + 1 = 3x²·x·x + (3y + 4)·(y + 1)·(y + 1), as a test finds modulo 5 and F.
use mathlib.Core.Path.{◌≡◌, refl, sym, subst}
use mathlib.Core.List.{List, [], ◌∷◌, ◌++◌, map}
use Prim.Native.Nat.{ℕ, ◌*◌, ◌<◌, ◌≤◌}
use native.Mathlib.Omega.{arith}
use lib.ListN.{length, drop}
use lib.IntN.{ℤ, pos}
use Rattle.algebra.specs.Modulo.{fin}
use Rattle.algebra.proofs.Norm as norm
use Rattle.algebra.proofs.Norm.{num, unit}
use Rattle.algebra.proofs.Solve.{◌⊞◌, ◌⊠◌}
use Rattle.field.specs.Residue as residue
use Rattle.field.specs.Residue.{Z, Zmod, el}
use Rattle.ideal.specs.Ideal.{IsIdeal}
use Rattle.ideal.proofs.Product.{product_of, product-sum, product-ideal}
use Rattle.ideal.proofs.Generated.{generated_each, generated_in}
use Rattle.powers.specs.Power.{Power, Inside}
use Rattle.powers.proofs.Powers.{power-one}
use Rattle.divisor.specs.Kind.{k11, k21}
use Rattle.layout.specs.Layout.{number2, number4, bytes2, bytes4, all_bytes4, record_bytes}
use Rattle.record.specs.Cause.{Stage, must, Passes}
use Rattle.record.specs.Curve.{modulus, coefficient_number, curve_stages, AcceptedCurve}
use Rattle.record.proofs.Cause.{passes_append}
use Rattle.calls.specs.Answer.{buffer}
use Rattle.calls.specs.Class.{Ring, Record, Ideal, IsSum, IsListSum}
use Rattle.calls.specs.Call.{divisor_of, room}
use Rattle.calls.proofs.Class.{Accepted, accepted-ideal}
use Rattle.calls.proofs.Multiples.{list-one, list-single, list-more}
use Rattle.calls.proofs.Answers.{writes_enough}
use Rattle.point.specs.Point.{Pair, Point, point_record, PointPower, IsPoints}
use Rattle.point.specs.PointCall.{coordinates, numbers_stage, pairs_stages, scan_limit, PointsSum, points_room, points_stages, PointsOf, written}
use Rattle.point.proofs.Times.{points_replicate}
use Rattle.point.proofs.Order.{rising_replicate}
use Rattle.point.proofs.Copies.{within-copies, accepted-point, full-points}
use Rattle.point.proofs.Determined.{points_sum_determined, points_of_determined}
use Rattle.worked.specs.Table.{E, P, one_two, divisor, WritesJust}
use Rattle.worked.specs.Points.{double_point, double_points, Has, two_points, Adds}
use Rattle.worked.proofs.Vanish.{x, y, at_xy, agree_sound}
use Rattle.worked.proofs.Link.{ideal-values}
use Rattle.worked.proofs.Worked.{worked}

module _ (c : List ℕ) (A : AcceptedCurve c) (small : modulus c ≤ scan_limit) (d : List ℕ) (a : Accepted c d) (ps : List Pair) (has : IsPoints c d ps) where
  written_so : (out : List ℕ) (r : ℤ) (out' : List ℕ) → points_room ≤ length out → PointsOf c d out r out'
      → (r ≡ pos (length ps)) × (out' ≡ coordinates ps ++ drop (2 * length ps) out)
  written_so out r out' l h = points_of_determined c d out r _ out' _ h (written ps passes has refl refl)
    where
      passes : Passes (points_stages c d out)
      passes =
          (passes_append (curve_stages c) (must 14 (modulus c ≤ scan_limit) ∷ divisor_of c d ++ buffer points_room out)).1
          (A, (small, (passes_append (divisor_of c d) (buffer points_room out)).1 (a, (l, tt))))

  pub points-written : Has c d ps
  points-written = (has, written_so)

-- the table's rows of 2P and of (1, 2) + (2, 2)
double-row : AcceptedCurve E × Record E P × IsSum E P P double_point
double-row = worked.1.1.1.1.1.1.1.1.0.0

pub sum_row : AcceptedCurve E × Record E one_two × Record E (divisor k11 (3 ∷ 3 ∷ [])) × IsSum E one_two (divisor k11 (3 ∷ 3 ∷ [])) two_points
sum_row = worked.1.1.1.1.1.0.0

pub accepted-E : AcceptedCurve E
accepted-E = double-row.0

ideal-P : IsIdeal (Ring E) (Ideal E P)
ideal-P = accepted-ideal E accepted-E P double-row.1.1

-- the record of (0, 4) is P
record_P : point_record E (0, 4) ≡ P
unfolding Z Zmod el residue.num fin number4 bytes2 bytes4 all_bytes4 record_bytes
record_P = refl

point-E : (a b : ℕ) → a < 5 → b < 5 → Accepted E (point_record E (a, b)) → Point E (a, b)
unfolding number4 bytes2 bytes4 all_bytes4 record_bytes
point-E a b l m h = ((l, m), accepted-point E accepted-E (a, b) h)

-- (0, 4) and (1, 2)
pub point_04 : Point E (0, 4)
point_04 = point-E 0 4 (omega arith) (omega arith) (subst (Accepted E) (sym record_P) double-row.1.1)

pub point_12 : Point E (1, 2)
unfolding Z Zmod el residue.num fin number4 bytes2 bytes4 all_bytes4 record_bytes
point_12 = point-E 1 2 (omega arith) (omega arith) sum_row.1.1

-- the value of an expression on E, and the polynomials of P
abbrev at-E : norm.E → (Ring E).Car
at-E e = at_xy (modulus E) (coefficient_number E) e

abbrev X : norm.E
X = x ⊞ num 0

abbrev Y : norm.E
Y = y ⊞ num 1

both_in : Ideal E P (at-E X) × Ideal E P (at-E Y)
unfolding number2 number4 bytes2 bytes4 all_bytes4 record_bytes
both_in =
    let each = generated_each (Ring E) (at-E X ∷ at-E Y ∷ []) in
    ((ideal-values E k11 P refl (at-E X)).1 each.0, (ideal-values E k11 P refl (at-E Y)).1 each.1.0)

square-of : (r e : norm.E) → Ideal E P (at-E e) → Power (Ring E) (Ideal E P) 2 (at-E (r ⊠ e ⊠ e))
square-of r e h = product_of (Ring E) (ideal-P.times (at-E r) h) ((power-one (Ring E) ideal-P (at-E e)).1 h)

-- y + 1 and x², as the record of kind 21 has them
abbrev f : norm.E
f = y ⊞ num 0 ⊠ x ⊞ num 1

abbrev g : norm.E
g = x ⊠ x ⊞ num 0 ⊠ x ⊞ num 0

f_in : Power (Ring E) (Ideal E P) 2 (at-E f)
unfolding number4 bytes2 bytes4 all_bytes4 record_bytes
f_in =
    subst (Power (Ring E) (Ideal E P) 2)
    (agree_sound (modulus E) (coefficient_number E) (num 3 ⊠ x ⊠ x ⊠ X ⊠ X ⊞ (num 3 ⊠ y ⊞ num 4) ⊠ Y ⊠ Y) f tt)
    (product-sum (Ring E) (square-of (num 3 ⊠ x ⊠ x) X both_in.0) (square-of (num 3 ⊠ y ⊞ num 4) Y both_in.1))

g_in : Power (Ring E) (Ideal E P) 2 (at-E g)
unfolding number4 bytes2 bytes4 all_bytes4 record_bytes
g_in =
    subst (Power (Ring E) (Ideal E P) 2) (agree_sound (modulus E) (coefficient_number E) (unit ⊠ X ⊠ X) g tt) (square-of unit X both_in.0)

pub double-inside : Inside (Ring E) (Ideal E double_point) (PointPower E (0, 4) 2)
unfolding number2 number4 bytes2 bytes4 all_bytes4 record_bytes
double-inside h m =
    subst (λ (w : List ℕ). Power (Ring E) (Ideal E w) 2 h) (sym record_P)
    (generated_in (Ring E) (product-ideal (Ring E) ideal-P) (at-E f ∷ at-E g ∷ []) (f_in, (g_in, tt)) h
    ((ideal-values E k21 double_point refl h).0 m))

pub double-has : Has E double_point double_points
unfolding number2 number4 bytes2 bytes4 all_bytes4 record_bytes
double-has =
    points-written E accepted-E (omega arith) double_point accepted double_points
    (full-points E accepted-E double_point accepted k21 refl double_points (points_replicate E (0, 4) point_04 (length double_points)) refl
    (λ q h. within-copies E double_point (0, 4) (length double_points) double-inside q) (rising_replicate (length double_points) (0, 4)))
  where
    accepted : Accepted E double_point
    accepted = double-row.2.accepted.1

pub points_of-two : Adds ((1, 2) ∷ (2, 2) ∷ []) two_points
unfolding Z Zmod el residue.num fin number4 bytes2 bytes4 all_bytes4 record_bytes
points_of-two = (sum, λ v t. list-one E accepted-E (one_two ∷ divisor k11 (3 ∷ 3 ∷ []) ∷ []) v two_points (h.1, (k.1, tt)) t sum, call)
  where
    h : Record E one_two
    h = sum_row.1

    k : Record E (divisor k11 (3 ∷ 3 ∷ []))
    k = sum_row.2

    sum : IsListSum E (map (point_record E) ((1, 2) ∷ (2, 2) ∷ [])) two_points
    sum = list-more E accepted-E (one_two ∷ []) (divisor k11 (3 ∷ 3 ∷ [])) one_two two_points (h.1, tt) k (list-single E accepted-E one_two h) sum_row.3

    checks : List Stage
    checks = numbers_stage (1 ∷ 2 ∷ 2 ∷ 2 ∷ []) ∷ pairs_stages E ((1, 2) ∷ (2, 2) ∷ [])

    passes_both : Point E (1, 2) → Point E (2, 2) → Passes (curve_stages E ++ checks)
    passes_both (m, o) (m', o') = (passes_append (curve_stages E) checks).1 (accepted-E, ((refl, omega arith), (m, (o, (m', (o', tt))))))

    passed : Passes (curve_stages E ++ checks)
    passed = passes_both point_12 (point-E 2 2 (omega arith) (omega arith) k.1)

    call : WritesJust room (PointsSum E (1 ∷ 2 ∷ 2 ∷ 2 ∷ [])) two_points
    call out r out' l t =
        points_sum_determined E (1 ∷ 2 ∷ 2 ∷ 2 ∷ []) out r _ out' _ t (writes_enough (curve_stages E ++ checks) passed two_points l sum refl refl)
