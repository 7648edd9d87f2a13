-- Document 02, 2026-06: the points of 2P + (1, 2) on E and of 22: 0 2 4 on G, in rising order.
--   rises, rise, rise_sound    test: the pairs of a list rise
--   three_rise, two_rise       those of the examples do
--   once                       a divisor inside the ideal of a point is inside its first power
--   larger-twice, larger_once  the ideal of 2P + (1, 2) lies inside the square of that of (0, 4) and inside that of (1, 2)
--   on_G, known_01, known_02, known_both   the certificates of G, of the records of (0, 1) and (0, 2), and of 22: 0 2 4
--   point-G, within-G          a pair whose record has a certificate is a point of G; 22: 0 2 4 inside its ideal
--   larger-has, above-has, order_examples      the examples hold, and the call answers accordingly
use mathlib.Core.Path.{refl}
use mathlib.Core.Bool.{Bool, true}
use mathlib.Core.Logic.{◌⊎◌, inl, inr}
use mathlib.Core.List.IsChain
use mathlib.Core.List.{List, [], ◌∷◌}
use Prim.Native.Nat.{ℕ, suc}
use native.Mathlib.Omega.{arith}
use lib.Dec.{T, leb, ltb, eqb, leb→le, eqb→eq}
use Rattle.algebra.specs.Modulo.{fin}
use Rattle.algebra.proofs.Norm.{num, nil, unit}
use Rattle.algebra.proofs.Solve.{◌⊞◌, ◌⊠◌, ◌^^◌}
use Rattle.algebra.proofs.Test.{both, both_left, both_right, either, of_either}
use Rattle.field.specs.Residue as residue
use Rattle.field.specs.Residue.{Z, Zmod, el}
use Rattle.powers.specs.Power.{Inside}
use Rattle.powers.proofs.Powers.{power-one}
use Rattle.divisor.specs.Kind.{k11, k21, k22, k31}
use Rattle.layout.specs.Layout.{number2, number4, bytes2, bytes4, all_bytes4, record_bytes}
use Rattle.record.specs.Curve.{AcceptedCurve}
use Rattle.calls.specs.Class.{Ring, Record, Ideal}
use Rattle.calls.proofs.Class.{Accepted, accepted-ideal}
use Rattle.point.specs.Point.{Pair, InField, Point, point_record, Rises, Rising}
use Rattle.point.proofs.Copies.{Within, within-listed, accepted-point, full-points}
use Rattle.worked.specs.Table.{E, one_two, divisor_accepted}
use Rattle.worked.specs.Points.{double_point, Has}
use Rattle.worked.specs.Parts.{larger}
use Rattle.worked.specs.Order.{three_points, G, above_zero, two_above, Examples}
use Rattle.worked.proofs.Vanish.{x, y}
use Rattle.worked.proofs.Accepted.{Smooth, Known}
use Rattle.worked.proofs.Rows.{test, means_sound}
use Rattle.worked.proofs.Certificates.{known_as}
use Rattle.worked.proofs.Points.{points-written, accepted-E, sum_row, point_04, point_12, double-inside}
use Rattle.worked.proofs.Parts.{inside_by, total-row}

abbrev rises : Pair → Pair → Bool
rises (a, b) (a', b') = either (ltb a a') (both (eqb a a') (leb b b'))

abbrev rise : List Pair → Bool
rise [] = true
rise (q ∷ []) = true
rise (q ∷ r ∷ ps) = both (rises q r) (rise (r ∷ ps))

rises_sound : (q r : Pair) → T (rises q r) → Rises q r
rises_sound (a, b) (a', b') t = go (of_either (ltb a a') (both (eqb a a') (leb b b')) t)
  where
    go : T (ltb a a') ⊎ T (both (eqb a a') (leb b b')) → Rises (a, b) (a', b')
    go (inl l) = inl (leb→le (suc a) a' l)
    go (inr s) = inr (eqb→eq a a' (both_left (eqb a a') (leb b b') s), leb→le b b' (both_right (eqb a a') (leb b b') s))

rise_sound : (ps : List Pair) → T (rise ps) → Rising ps
rise_sound [] t = IsChain.nil
rise_sound (q ∷ []) t = IsChain.singleton q
rise_sound (q ∷ r ∷ ps) t =
    IsChain.cons-cons (rises_sound q r (both_left (rises q r) (rise (r ∷ ps)) t)) (rise_sound (r ∷ ps) (both_right (rises q r) (rise (r ∷ ps)) t))

three_rise : Rising three_points
three_rise = rise_sound three_points tt

two_rise : Rising two_above
two_rise = rise_sound two_above tt

-- a divisor inside the ideal of a point
once : (c : List ℕ) → AcceptedCurve c → (d : List ℕ) (q : Pair) → Accepted c (point_record c q) → Inside (Ring c) (Ideal c d) (Ideal c (point_record c q))
    → Within c d q 1
once c A d q a i h m = (power-one (Ring c) (accepted-ideal c A (point_record c q) a) h).1 (i h m)

-- the polynomials of larger are 3·(y + 1) + x², (x + 4)·(y + 1) and (y + 3)·(y + 1)
larger-twice : Within E larger (0, 4) 2
unfolding number2 number4 bytes2 bytes4 all_bytes4 record_bytes
larger-twice h m =
    double-inside h
    (inside_by E k31 k21 larger double_point refl refl ((num 3 ∷ unit ∷ []) ∷ ((x ⊞ num 4) ∷ nil ∷ []) ∷ ((y ⊞ num 3) ∷ nil ∷ []) ∷ []) tt h m)

-- … and (x + 1)·(x + 4) + 3·(y + 3), (y + 1)·(x + 4) and (y + 1)·(y + 3)
larger_once : Within E larger (1, 2) 1
unfolding Z Zmod el residue.num fin number2 number4 bytes2 bytes4 all_bytes4 record_bytes
larger_once =
    once E accepted-E larger (1, 2) sum_row.1.1
    (inside_by E k31 k11 larger one_two refl refl (((x ⊞ unit) ∷ num 3 ∷ []) ∷ ((y ⊞ unit) ∷ nil ∷ []) ∷ (nil ∷ (y ⊞ unit) ∷ []) ∷ []) tt)

larger-has : Has E larger three_points
unfolding number2 number4 bytes2 bytes4 all_bytes4 record_bytes
larger-has =
    points-written E accepted-E (omega arith) larger total-row.1.1 three_points
    (full-points E accepted-E larger total-row.1.1 k31 refl three_points (point_04, (point_04, (point_12, tt))) refl
    (λ q h. within-listed E larger three_points (larger-twice, (larger-twice, (larger_once, tt))) q) three_rise)

-- Fx = 4x³ and Fy = 3y² on G
abbrev on_G : Smooth
on_G = record { s = num 2 ⊠ x; t = num 5 ⊠ y }

-- (0, 1), (0, 2) and both
abbrev known_01 : Known
known_01 =
    known_as k11 ((unit ∷ x ∷ nil ∷ []) ∷ (nil ∷ nil ∷ unit ∷ []) ∷ ((num 6 ⊠ x ^^ 3) ∷ num 6 ∷ num 6 ∷ []) ∷ [])

abbrev known_02 : Known
known_02 =
    known_as k11 ((num 2 ∷ x ∷ nil ∷ []) ∷ (nil ∷ nil ∷ unit ∷ []) ∷ ((num 6 ⊠ x ^^ 3) ∷ num 3 ∷ num 5 ∷ []) ∷ [])

abbrev known_both : Known
known_both =
    known_as k22 ((nil ∷ unit ∷ nil ∷ []) ∷ (num 5 ∷ num 3 ∷ x ∷ []) ∷ ((num 6 ⊠ x ^^ 3) ∷ nil ∷ num 4 ∷ []) ∷ [])

above-row : AcceptedCurve G × Record G above_zero
unfolding number2 number4 bytes2 bytes4 all_bytes4 record_bytes
above-row = means_sound (divisor_accepted G above_zero) (on_G, known_both) tt

-- a point of G, by the certificate of its record
module _ (q : Pair) (field : InField G q) (k : Known) (t : T (test (divisor_accepted G (point_record G q)) (on_G, k))) where
  accepted : Accepted G (point_record G q)
  accepted = (means_sound (divisor_accepted G (point_record G q)) (on_G, k) t).1.1

  point-G : Point G q
  point-G = (field, accepted-point G above-row.0 q accepted)

  within-G : Inside (Ring G) (Ideal G above_zero) (Ideal G (point_record G q)) → Within G above_zero q 1
  within-G = once G above-row.0 above_zero q accepted

-- x is x, and y² + 4y + 2 is (y + 5)·(y + 6)
above-has : Has G above_zero two_above
unfolding Z Zmod el residue.num fin number2 number4 bytes2 bytes4 all_bytes4 record_bytes
above-has =
    points-written G above-row.0 (omega arith) above_zero above-row.1.1 two_above
    (full-points G above-row.0 above_zero above-row.1.1 k22 refl two_above
    (point-G (0, 1) (omega arith, omega arith) known_01 tt, (point-G (0, 2) (omega arith, omega arith) known_02 tt, tt)) refl
    (λ q h. within-listed G above_zero two_above (first, (second, tt)) q) two_rise)
  where
    first : Within G above_zero (0, 1) 1
    first =
        within-G (0, 1) (omega arith, omega arith) known_01 tt
        (inside_by G k22 k11 above_zero (point_record G (0, 1)) refl refl ((unit ∷ nil ∷ []) ∷ (nil ∷ (y ⊞ num 5) ∷ []) ∷ []) tt)

    second : Within G above_zero (0, 2) 1
    second =
        within-G (0, 2) (omega arith, omega arith) known_02 tt
        (inside_by G k22 k11 above_zero (point_record G (0, 2)) refl refl ((unit ∷ nil ∷ []) ∷ (nil ∷ (y ⊞ num 6) ∷ []) ∷ []) tt)

pub order_examples : Examples
order_examples = (larger-has, above-has)
