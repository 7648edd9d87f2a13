-- Document 02, 2026-04: common part, common multiple and sum of 2P + (1, 2) and P, on E. The first of them is the record larger.
--   held p n gs hs qss     test: each of gs is a combination of hs, with the factors qss; held-inside: then what gs generate lies inside
--                          what hs generate
--   inside_by              the ideal of a record lies inside that of another, by the test of their polynomials
--   larger-inside          the ideal of larger lies inside that of P
--   larger-product         … and is the product of the ideals of 2P and (1, 2)
--   written                the one result of two accepted records on E is what the call writes, and nothing else
--   parts_examples         the examples hold
use mathlib.Core.Path.{◌≡◌, refl, sym, subst}
use mathlib.Core.Bool.{Bool, true}
use mathlib.Core.List.{List, [], ◌∷◌, ◌++◌}
use Prim.Native.Nat.{ℕ, ◌≤◌}
use lib.Dec.{T}
use lib.ListN.{length, drop}
use lib.IntN.{pos}
use Rattle.algebra.specs.Ring.{CommRing}
use Rattle.algebra.proofs.Norm as norm
use Rattle.algebra.proofs.Norm.{num, nil, unit}
use Rattle.algebra.proofs.Test.{both, both_left, both_right}
use Rattle.algebra.proofs.Sound.{head, tail}
use Rattle.algebra.proofs.Solve.{◌⊞◌, ◌⊠◌, ◌^^◌, combine}
use Rattle.ideal.specs.Ideal.{Generated, Product, SameIdeal}
use Rattle.ideal.proofs.Same.{same_sym, same_trans}
use Rattle.ideal.proofs.Every.{Every}
use Rattle.ideal.proofs.Generated.{generated_ideal, generated_in}
use Rattle.powers.specs.Power.{Inside}
use Rattle.curve.specs.Curve.{Coordinate}
use Rattle.divisor.specs.Kind.{Kind, k11, k21, k31}
use Rattle.layout.specs.Layout.{number2, number4, bytes2, bytes4, all_bytes4, record_bytes}
use Rattle.record.specs.Cause.{Stage}
use Rattle.record.specs.Curve.{modulus, coefficient_number, curve_stages, AcceptedCurve}
use Rattle.record.specs.Divisor.{OfKind}
use Rattle.calls.specs.Answer.{Writes}
use Rattle.calls.specs.Class.{Ring, Record, Ideal, IsSum, IsCommonPart, IsCommonMultiple}
use Rattle.calls.specs.Call.{divisor_of, room}
use Rattle.calls.proofs.Class.{Accepted, sum_one}
use Rattle.calls.proofs.Parts.{part-one, common_multiple-one, inside-part, inside-multiple}
use Rattle.calls.proofs.Answers.{two_sound, writes_one, writes_enough}
use Rattle.calls.proofs.Exists.{two-passes}
use Rattle.worked.specs.Table.{E, P, one_two, sum}
use Rattle.worked.specs.Points.{double_point}
use Rattle.worked.specs.Parts.{larger, total, Only, Examples}
use Rattle.worked.proofs.Vanish.{x, y, coefficients-of, agree, agree_sound}
use Rattle.worked.proofs.Basis.{values, generated_combine}
use Rattle.worked.proofs.Accepted.{Known}
use Rattle.worked.proofs.Link.{Link, products_xy, polynomials-of, ideal-values, product-values}
use Rattle.worked.proofs.Rows.{means_sound}
use Rattle.worked.proofs.Certificates.{known_as, linked_by, on_E, point-P, difference}
use Rattle.worked.proofs.Points.{accepted-E}

abbrev pub held : ℕ → (ℕ → ℕ) → List norm.E → List norm.E → List (List norm.E) → Bool
held p n [] hs qss = true
held p n (g ∷ gs) hs qss = both (agree p n g (combine hs (head [] qss))) (held p n gs hs (tail qss))

module _ (p : ℕ) (n : ℕ → ℕ) where
  abbrev R : CommRing
  R = Coordinate (coefficients-of p n)

  held-each : (gs hs : List norm.E) (qss : List (List norm.E)) → T (held p n gs hs qss) → Every (Generated R (values p n hs)) (values p n gs)
  held-each [] hs qss t = tt
  held-each (g ∷ gs) hs qss t = (
    subst (Generated R (values p n hs))
        (sym (agree_sound p n g (combine hs (head [] qss)) (both_left (agree p n g (combine hs (head [] qss))) _ t)))
        (generated_combine p n hs (head [] qss)),
    held-each gs hs (tail qss) (both_right (agree p n g (combine hs (head [] qss))) _ t),
  )

  held-inside : (gs hs : List norm.E) (qss : List (List norm.E)) → T (held p n gs hs qss)
      → Inside R (Generated R (values p n gs)) (Generated R (values p n hs))
  held-inside gs hs qss t = generated_in R (generated_ideal R (values p n hs)) (values p n gs) (held-each gs hs qss t)

pub inside_by : (c : List ℕ) (κ ν : Kind) (a b : List ℕ) → OfKind a κ → OfKind b ν → (qss : List (List norm.E))
    → T (held (modulus c) (coefficient_number c) (polynomials-of κ a) (polynomials-of ν b) qss) → Inside (Ring c) (Ideal c a) (Ideal c b)
inside_by c κ ν a b e e' qss t h m =
    (ideal-values c ν b e' h).1
    (held-inside (modulus c) (coefficient_number c) (polynomials-of κ a) (polynomials-of ν b) qss t h ((ideal-values c κ a e h).0 m))

-- how y times each member of larger is made of its members; how x times the product of the ideals of larger and P is y + 1 times that of total
abbrev known_larger : Known
known_larger =
    known_as k31
    ((num 4 ∷ (x ⊞ unit) ∷ num 3 ∷ [])
    ∷ (nil ∷ num 2 ∷ (x ⊞ num 4) ∷ [])
    ∷ ((num 4 ⊠ x ^^ 2) ∷ (num 3 ⊠ x ⊞ num 3) ∷ num 4 ∷ [])
    ∷ [])

abbrev join_total : Link
join_total =
    linked_by x (y ⊞ unit)
    ((num 3 ∷ nil ∷ num 4 ∷ [])
    ∷ ((x ⊞ unit) ∷ num 3 ∷ nil ∷ [])
    ∷ (x ∷ nil ∷ nil ∷ [])
    ∷ (num 3 ∷ (x ⊞ num 4) ∷ nil ∷ [])
    ∷ (nil ∷ x ∷ nil ∷ [])
    ∷ (num 3 ∷ nil ∷ x ∷ [])
    ∷ [])
    (((num 2 ⊠ x) ∷ nil ∷ num 4 ∷ nil ∷ nil ∷ num 2 ∷ [])
    ∷ (x ∷ num 2 ∷ nil ∷ nil ∷ nil ∷ unit ∷ [])
    ∷ ((x ⊞ num 4) ∷ nil ∷ num 2 ∷ nil ∷ nil ∷ unit ∷ [])
    ∷ [])

pub total-row : AcceptedCurve E × Record E larger × Record E P × IsSum E larger P total
unfolding number2 number4 bytes2 bytes4 all_bytes4 record_bytes
total-row = means_sound (sum E larger P total) (on_E, known_larger, point-P, difference, join_total) tt

-- what gs generate lies inside what hs generate, on E
abbrev held_on_E : (gs hs : List norm.E) (qss : List (List norm.E)) → T (held (modulus E) (coefficient_number E) gs hs qss)
    → Inside (Ring E) (Generated (Ring E) (values (modulus E) (coefficient_number E) gs)) (Generated (Ring E) (values (modulus E) (coefficient_number E) hs))
held_on_E = held-inside (modulus E) (coefficient_number E)

-- the polynomials of larger are x·x + 3·(y + 1), (x + 4)·(y + 1) and (y + 3)·(y + 1)
larger-inside : Inside (Ring E) (Ideal E larger) (Ideal E P)
unfolding number2 number4 bytes2 bytes4 all_bytes4 record_bytes
larger-inside =
    inside_by E k31 k11 larger P refl refl ((x ∷ num 3 ∷ []) ∷ (nil ∷ (x ⊞ num 4) ∷ []) ∷ (nil ∷ (y ⊞ num 3) ∷ []) ∷ []) tt

-- the products of y + 1 and x² with x + 4 and y + 3
abbrev products : List norm.E
products = products_xy (polynomials-of k21 double_point) (polynomials-of k11 one_two)

-- they and the polynomials of larger are combinations of each other
larger-product : SameIdeal (Ring E) (Ideal E larger) (Product (Ring E) (Ideal E double_point) (Ideal E one_two))
unfolding number2 number4 bytes2 bytes4 all_bytes4 record_bytes
larger-product =
    same_trans (Ring E) (ideal-values E k31 larger refl)
    (same_trans (Ring E)
    (λ h. (
      held_on_E (polynomials-of k31 larger) products
          (((num 2 ⊠ x ⊞ num 2) ∷ nil ∷ nil ∷ num 3 ∷ []) ∷ (unit ∷ nil ∷ nil ∷ nil ∷ []) ∷ (nil ∷ unit ∷ nil ∷ nil ∷ []) ∷ []) tt h,
      held_on_E products (polynomials-of k31 larger)
          ((nil ∷ unit ∷ nil ∷ []) ∷ (nil ∷ nil ∷ unit ∷ []) ∷ ((x ⊞ num 4) ∷ num 2 ∷ nil ∷ []) ∷ (num 2 ∷ (x ⊞ unit) ∷ nil ∷ []) ∷ []) tt h,
    ))
    (same_sym (Ring E) (product-values E k21 k11 double_point one_two refl refl)))

-- what the calls on a and b check before the buffer
abbrev checks : (a b : List ℕ) → List Stage
checks a b = curve_stages E ++ divisor_of E a ++ divisor_of E b

written : (a b : List ℕ) {w : List ℕ} {Is : List ℕ → Type 0} → Accepted E a → Accepted E b → ((v v' : List ℕ) → Is v → Is v' → v ≡ v') → Is w
    → Only Is (Writes room (checks a b) Is) w
written a b {w} {Is} ha hb one is =
    (λ v i. one v w i is, call, λ out r out' l t. writes_one (checks a b) (two_sound E a b) room out (λ v v' p. one v v') t (call out l))
  where
    call : (out : List ℕ) → room ≤ length out → Writes room (checks a b) Is out (pos (length w)) (w ++ drop (length w) out)
    call out l = writes_enough (checks a b) (two-passes E accepted-E a b ha hb) w l is refl refl

pub parts_examples : Examples
parts_examples = (
  larger-product,
  (part, written larger P hl hp (part-one E accepted-E larger P hl hp) part),
  (multiple, written larger P hl hp (common_multiple-one E accepted-E larger P hl hp) multiple),
  (total-row.3, written larger P hl hp (λ v v'. sum_one E accepted-E larger P v hl hp v') total-row.3),
)
  where
    hl : Accepted E larger
    hl = total-row.1.1

    hp : Accepted E P
    hp = total-row.2.1

    part : IsCommonPart E larger P P
    part = inside-part E accepted-E larger P total-row.1 total-row.2 larger-inside

    multiple : IsCommonMultiple E larger P larger
    multiple = inside-multiple E accepted-E larger P total-row.1 total-row.2 larger-inside
