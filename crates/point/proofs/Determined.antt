-- The contracts of the calls on points fix the answer.
--   multiplicity_one           a point has one multiplicity
--   point_dec                  it is decidable whether a pair is a point
--   points-same                two lists of the points of a divisor have every pair equally often
--   points-one                 … and are the same, since both rise
--   pairs_sound, points_stages_sound   what the calls check refuses nothing that it passes, and with one number only
--   passed-points              pairs that pass their checks are points
--   points-accepted            the records of points are accepted
--   points_sum_determined      points_sum: what is returned and what the buffer then holds
--   points_of_determined       points_of: what is returned and what the slice then holds
-- points-same: at a point both numbers are its multiplicity, and a pair that is no point stands in neither list.
-- The calls: what they check gives one cause (crate record, proofs/Cause), and a list sum is one record (crate calls, list-one).
use mathlib.Core.Path.{◌≡◌, sym, ◌∙◌, ap}
use mathlib.Core.List.{List, [], ◌∷◌, ◌++◌, map}
use Prim.Native.Nat.{ℕ, suc, ◌*◌, ◌<◌}
use native.Mathlib.Decide.{dec_le}
use native.Mathlib.Omega.{arith}
use lib.ListN.{length, drop}
use lib.IntN.{ℤ, pos}
use Rattle.field.proofs.Element.{Z-discrete}
use Rattle.record.specs.Cause.{Stage, must, Passes}
use Rattle.record.specs.Curve.{modulus, curve_stages, AcceptedCurve}
use Rattle.record.proofs.Cause.{AllSound, sound_must, passes_refuses, one-cause, passes_append}
use Rattle.record.proofs.Lists.{curve_sound}
use Rattle.calls.specs.Answer.{minus, buffer}
use Rattle.calls.specs.Class.{IsListSum}
use Rattle.calls.specs.Call.{room, divisor_of}
use Rattle.calls.proofs.Class.{AcceptedRow}
use Rattle.calls.proofs.Multiples.{list-one}
use Rattle.calls.proofs.Answers.{sound_append, divisor_stages_sound, writes_one}
use Rattle.point.specs.Point.{Pair, OnCurve, Point, point_record, IsMultiplicity, times, AllPoints, IsPoints}
use Rattle.point.specs.PointCall.{pairs, coordinates, numbers_stage, pairs_stages, PointsSum, points_room, points_stages, PointsOf, refused, written}
use Rattle.point.proofs.Times.{SameTimes, times_off}
use Rattle.point.proofs.Order.{rising-one}
use Rattle.point.proofs.Records.{point-accepted}

pub multiplicity_one : (c d : List ℕ) (q : Pair) (k j : ℕ) → IsMultiplicity c d q k → IsMultiplicity c d q j → k ≡ j
multiplicity_one c d q k j h h' = omega (arith, h.largest j h'.inside, h'.largest k h.inside)

pub point_dec : (c : List ℕ) (q : Pair) → Dec (Point c q)
point_dec c (a, b) = go (dec_le (suc a) (modulus c)) (dec_le (suc b) (modulus c)) (Z-discrete (modulus c) _ _)
  where
    go : Dec (a < modulus c) → Dec (b < modulus c) → Dec (OnCurve c (a, b)) → Dec (Point c (a, b))
    go (yes l) (yes m) (yes e) = yes ((l, m), e)
    go (yes l) (yes m) (no n) = no (λ g. n g.1)
    go (yes l) (no n) e = no (λ g. n g.0.1)
    go (no n) m e = no (λ g. n g.0.0)

pub points-same : (c d : List ℕ) (ps qs : List Pair) → IsPoints c d ps → IsPoints c d qs → SameTimes ps qs
points-same c d ps qs h h' q = go (point_dec c q)
  where
    go : Dec (Point c q) → times q ps ≡ times q qs
    go (yes g) = multiplicity_one c d q (times q ps) (times q qs) (h.often q g) (h'.often q g)
    go (no n) = times_off c q ps n h.points ∙ sym (times_off c q qs n h'.points)

pub points-one : (c d : List ℕ) (ps qs : List Pair) → IsPoints c d ps → IsPoints c d qs → ps ≡ qs
points-one c d ps qs h h' = rising-one ps qs h.rising h'.rising (points-same c d ps qs h h')

module _ (c : List ℕ) where
  pub pairs_sound : (qs : List Pair) → AllSound (pairs_stages c qs)
  pairs_sound [] = tt
  pairs_sound (q ∷ qs) = (sound_must _ _, (sound_must _ _, pairs_sound qs))

  pub passed-points : (qs : List Pair) → Passes (pairs_stages c qs) → AllPoints c qs
  passed-points [] _ = tt
  passed-points (q ∷ qs) (f, (o, rest)) = ((f, o), passed-points qs rest)

  pub points-accepted : AcceptedCurve c → (qs : List Pair) → AllPoints c qs → AcceptedRow c (map (point_record c) qs)
  points-accepted A [] _ = tt
  points-accepted A (q ∷ qs) (g, gs) = ((point-accepted c A q g.1).1, points-accepted A qs gs)

  pub points_sum_determined : (ns out : List ℕ) (r s : ℤ) (out' out'' : List ℕ) → PointsSum c ns out r out' → PointsSum c ns out s out''
      → (r ≡ s) × (out' ≡ out'')
  points_sum_determined ns out r s out' out'' =
      writes_one (curve_stages c ++ checks) (sound_append (curve_stages c) checks (curve_sound c) (sound_must _ _, pairs_sound (pairs ns))) room out one
    where
      checks : List Stage
      checks = numbers_stage ns ∷ pairs_stages c (pairs ns)

      one : (w w' : List ℕ) → Passes (curve_stages c ++ checks) → IsListSum c (map (point_record c) (pairs ns)) w
          → IsListSum c (map (point_record c) (pairs ns)) w' → w ≡ w'
      one w w' passed = go ((passes_append (curve_stages c) checks).0 passed)
        where
          go : Passes (curve_stages c) × Passes checks → IsListSum c (map (point_record c) (pairs ns)) w
              → IsListSum c (map (point_record c) (pairs ns)) w' → w ≡ w'
          go (A, (_, h)) = list-one c A (map (point_record c) (pairs ns)) w w' (points-accepted A (pairs ns) (passed-points (pairs ns) h))

pub points_stages_sound : (c d out : List ℕ) → AllSound (points_stages c d out)
points_stages_sound c d out =
    sound_append (curve_stages c) (must 14 _ ∷ divisor_of c d ++ buffer points_room out) (curve_sound c)
    (sound_must _ _, sound_append (divisor_of c d) (buffer points_room out) (divisor_stages_sound c d) (sound_must _ _, tt))

pub points_of_determined : (c d out : List ℕ) (r s : ℤ) (out' out'' : List ℕ) → PointsOf c d out r out' → PointsOf c d out s out''
    → (r ≡ s) × (out' ≡ out'')
points_of_determined c d out r s out' out'' (refused n f e q) (refused m g e' q') = (
  e ∙ ap minus (one-cause (points_stages c d out) (points_stages_sound c d out) n m f g) ∙ sym e',
  q ∙ sym q',
)
points_of_determined c d out r s out' out'' (refused n f e q) (written ps p h e' q') =
    absurd (passes_refuses (points_stages c d out) (points_stages_sound c d out) p n f)
points_of_determined c d out r s out' out'' (written ps p h e q) (refused n f e' q') =
    absurd (passes_refuses (points_stages c d out) (points_stages_sound c d out) p n f)
points_of_determined c d out r s out' out'' (written ps p h e q) (written qs p' h' e' q') =
    let same : ps ≡ qs = points-one c d ps qs h h' in (
      e ∙ ap (λ (ts : List Pair). pos (length ts)) same ∙ sym e',
      q ∙ ap (λ (ts : List Pair). coordinates ts ++ drop (2 * length ts) out) same ∙ sym q',
    )
