-- Copies of a point, and lists of as many points as the degree.
--   Within c d q k     the ideal of d lies inside the k-th power of the ideal of q
--   within-copies      a divisor inside the n-th power of q is inside the power times r (n copies of q) of each r
--   within-listed      a divisor inside the power times q ps of each pair q of ps is so for every pair
--   most-three         a divisor inside the n-th power of a point: n is at most 3
--   accepted-point     a pair whose record is accepted is on the curve
--   full-points        if a divisor lies inside the power times q ps of each point q, and ps rises and is as long as its degree, it has the points ps
-- full-points: a point more would be more points than the degree (points-bound).
use mathlib.Core.Path.{◌≡◌, refl, sym, subst}
use mathlib.Core.List.{List, ◌∷◌}
use Prim.Native.Nat.{ℕ, suc, ◌≤◌}
use native.Mathlib.Decide.{dec_le, ℕ_discrete}
use native.Mathlib.Omega.{arith}
use lib.ListN.{length, replicate, length-replicate}
use Rattle.ideal.proofs.Every.{Every}
use Rattle.powers.specs.Power.{Inside}
use Rattle.powers.proofs.Powers.{power-less}
use Rattle.divisor.specs.Kind.{Kind, k11, remaining}
use Rattle.layout.specs.Layout.{number2, bytes2, record_bytes}
use Rattle.record.specs.Curve.{modulus, equation, AcceptedCurve}
use Rattle.record.specs.Divisor.{OfKind}
use Rattle.record.proofs.Accepted.{ideal_reads}
use Rattle.calls.specs.Class.{Ring, Ideal}
use Rattle.calls.proofs.Class.{Accepted}
use Rattle.point.specs.Point.{Pair, OnCurve, Point, point_record, PointPower, times, AllPoints, Rising, IsPoints}
use Rattle.point.proofs.Records.{basis-point, point-ideal}
use Rattle.point.proofs.Times.{same-pair, times_here, times_other, times_replicate, times_replicate_other, every_times, points_replicate}
use Rattle.point.proofs.Degree.{points-bound, points-three}

abbrev pub Within : (c d : List ℕ) → Pair → ℕ → Type 0
Within c d q k = Inside (Ring c) (Ideal c d) (PointPower c q k)

pub within-copies : (c d : List ℕ) (q : Pair) (n : ℕ) → Within c d q n → (r : Pair) → Within c d r (times r (replicate n q))
within-copies c d q n w r = go (same-pair r q)
  where
    go : Dec (r ≡ q) → Within c d r (times r (replicate n q))
    go (yes e) = subst (λ (t : Pair). Within c d t (times t (replicate n q))) (sym e) (subst (Within c d q) (sym (times_replicate q n)) w)
    go (no o) = subst (Within c d r) (sym (times_replicate_other r q n o)) (λ h m. tt)

pub within-listed : (c d : List ℕ) (ps : List Pair) → Every (λ q. Within c d q (times q ps)) ps → (r : Pair) → Within c d r (times r ps)
within-listed c d ps hs r = go (ℕ_discrete (times r ps) 0)
  where
    go : Dec (times r ps ≡ 0) → Within c d r (times r ps)
    go (yes e) = subst (Within c d r) (sym e) (λ h m. tt)
    go (no n) = every_times (λ q. Within c d q (times q ps)) r ps hs n

module _ (c : List ℕ) (A : AcceptedCurve c) where
  point-kind : (q : Pair) → OfKind (point_record c q) k11
  unfolding number2 bytes2 record_bytes
  point-kind (a, b) = refl

  pub accepted-point : (q : Pair) → Accepted c (point_record c q) → OnCurve c q
  accepted-point q a =
      basis-point c A q
      (λ h i. a.1.1.1.1.0 k11 (point-kind q) h
      ((ideal_reads (modulus c) (equation c) k11 (point_record c q) (point-kind q) h).0 ((point-ideal c A q h).0 i)))

  pub most-three : (d : List ℕ) → Accepted c d → (q : Pair) → Point c q → (n : ℕ) → Within c d q n → n ≤ 3
  most-three d a q g n w =
      omega (arith, length-replicate n q, points-three c A d a (replicate n q) (points_replicate c q g n) (λ r h. within-copies c d q n w r))

  module _ (d : List ℕ) (a : Accepted c d) where
    module _ (κ : Kind) (e : OfKind d κ) (ps : List Pair) (hs : AllPoints c ps) (long : length ps ≡ length (remaining (equation c) κ))
        (inside : (q : Pair) → Point c q → Within c d q (times q ps)) (rising : Rising ps) where
      no_more : (q : Pair) → Point c q → ¬ Within c d q (suc (times q ps))
      no_more q g w = omega (arith, long, points-bound c A d a κ e (q ∷ ps) (g, hs) (λ r h. go r h (same-pair r q)))
        where
          go : (r : Pair) → Point c r → Dec (r ≡ q) → Within c d r (times r (q ∷ ps))
          go r h (yes s) = subst (λ (t : Pair). Within c d t (times t (q ∷ ps))) (sym s) (subst (Within c d q) (sym (times_here q ps)) w)
          go r h (no o) = subst (Within c d r) (sym (times_other r q ps o)) (inside r h)

      pub full-points : IsPoints c d ps
      full-points =
          record {
            points = hs;
            often = λ q g. record { inside = inside q g; largest = λ j w. omega (arith, go q g j w (dec_le j (times q ps))) };
            rising = rising;
          }
        where
          go : (q : Pair) → Point c q → (j : ℕ) → Within c d q j → Dec (j ≤ times q ps) → j ≤ times q ps
          go q g j w (yes l) = l
          go q g j w (no o) =
              absurd (no_more q g (λ h m. power-less (Ring c) (Ideal c (point_record c q)) (suc (times q ps)) j (omega (arith, o)) h (w h m)))
