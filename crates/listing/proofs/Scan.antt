-- The points seen in a scan of x, and of y at each x.
--   seen_start             none before (0, 0)
--   seen_skip              no point of the divisor from (a, b) on before (a, b')
--   seen-put               the pair (a, b) is counted
--   seen-line              all of x = a is seen
--   seen-lines             no point of the divisor with x from a on below a'
--   seen_all               all of the field is seen: the pairs are the points of the divisor
--   seen-three             three points at most are seen
use mathlib.Core.Path.{◌≡◌, refl, sym, ◌∙◌, ap₂, subst}
use mathlib.Core.Logic.{inl, inr}
use mathlib.Core.List.IsChain
use mathlib.Core.List.{List, [], ◌++◌}
use Prim.Native.Nat.{ℕ, suc, ◌+◌, ◌<◌, ◌≤◌}
use native.Mathlib.Omega.{arith}
use native.Mathlib.Decide.{dec_lt, ℕ_discrete}
use lib.ListN.{length, replicate}
use Rattle.powers.specs.Power.{Inside}
use Rattle.record.specs.Curve.{modulus, equation, AcceptedCurve}
use Rattle.record.specs.Divisor.{AcceptedDivisor}
use Rattle.calls.specs.Class.{Ring, Ideal}
use Rattle.point.specs.Point.{Pair, Point, PointPower, IsMultiplicity, IsPoints, AllPoints, Rises, times}
use Rattle.point.proofs.Times.{same-pair, times_append, times_replicate, times_replicate_other, times_every, points_append, points_replicate}
use Rattle.point.proofs.Order.{rising-copies}
use Rattle.point.proofs.Degree.{points-three}
use Rattle.listing.specs.Contract.{Counted, Before, Seen}

before_dec : (q r : Pair) → Dec (Before q r)
before_dec (a, b) (a', b') = go (dec_lt a' a) (ℕ_discrete a' a) (dec_lt b' b)
  where
    go : Dec (a' < a) → Dec (a' ≡ a) → Dec (b' < b) → Dec (Before (a, b) (a', b'))
    go (yes l) e m = yes (inl l)
    go (no l) (yes e) (yes m) = yes (inr (e, m))
    go (no l) (yes e) (no m) = no none
      where
        none : ¬ Before (a, b) (a', b')
        none (inl h) = l h
        none (inr (h, k)) = m k
    go (no l) (no e) m = no none
      where
        none : ¬ Before (a, b) (a', b')
        none (inl h) = l h
        none (inr (h, k)) = e h

pub seen_start : (c w : List ℕ) → Seen c w [] (0, 0)
seen_start c w = record { points = tt; often = λ r p b. absurd (none r b); later = λ r b. nothing r; rising = IsChain.nil }
  where
    none : (r : Pair) → ¬ Before (0, 0) r
    none (a, b) (inl l) = omega arith
    none (a, b) (inr (e, l)) = omega arith

    nothing : (r : Pair) → times r [] ≡ 0
    nothing (a, b) = refl

module _ {c w : List ℕ} {ps : List Pair} where
  -- what stands nowhere in ps has multiplicity 0
  unseen : {q r : Pair} → Seen c w ps q → ¬ Before q r → IsMultiplicity c w r 0 → IsMultiplicity c w r (times r ps)
  unseen {q} {r} s n m = subst (IsMultiplicity c w r) (sym (s.later r n)) m

  -- a greater place: each point between the two has multiplicity 0
  further : {q q' : Pair} → Seen c w ps q → ((r : Pair) → Before q r → Before q' r)
      → ((r : Pair) → Point c r → Before q' r → ¬ Before q r → IsMultiplicity c w r 0) → Seen c w ps q'
  further {q} {q'} s up none =
      record {
        points = s.points;
        often = λ r p b. go r p b (before_dec q r);
        later = λ r n. s.later r (λ b. n (up r b));
        rising = s.rising;
      }
    where
      go : (r : Pair) → Point c r → Before q' r → Dec (Before q r) → IsMultiplicity c w r (times r ps)
      go r p b (yes d) = s.often r p d
      go r p b (no d) = unseen s d (none r p b d)

  module _ {a b : ℕ} (s : Seen c w ps (a, b)) where
    pub seen_skip : (b' : ℕ) → b ≤ b' → ((n : ℕ) → b ≤ n → n < b' → Point c (a, n) → IsMultiplicity c w (a, n) 0) → Seen c w ps (a, b')
    seen_skip b' l none = further s up gap
      where
        up : (r : Pair) → Before (a, b) r → Before (a, b') r
        up (x, y) (inl h) = inl h
        up (x, y) (inr (e, h)) = inr (e, omega arith)

        gap : (r : Pair) → Point c r → Before (a, b') r → ¬ Before (a, b) r → IsMultiplicity c w r 0
        gap (x, y) p (inl h) n = absurd (n (inl h))
        gap (x, y) p (inr (e, h)) n =
            subst (λ (z : ℕ). Point c (z, y) → IsMultiplicity c w (z, y) 0) (sym e) (none y (low (dec_lt y b)) h) p
          where
            low : Dec (y < b) → b ≤ y
            low (yes m) = absurd (n (inr (e, m)))
            low (no m) = omega arith

    pub seen-line : modulus c ≤ b → Seen c w ps (suc a, 0)
    seen-line l = further s up gap
      where
        up : (r : Pair) → Before (a, b) r → Before (suc a, 0) r
        up (x, y) (inl h) = inl (omega arith)
        up (x, y) (inr (e, h)) = inl (omega arith)

        gap : (r : Pair) → Point c r → Before (suc a, 0) r → ¬ Before (a, b) r → IsMultiplicity c w r 0
        gap (x, y) p (inl h) n = absurd (n (at (dec_lt x a)))
          where
            at : Dec (x < a) → Before (a, b) (x, y)
            at (yes m) = inl m
            at (no m) = inr (omega arith, omega (arith, p.0.1))
        gap (x, y) p (inr (e, h)) n = absurd (omega arith)

    -- the pair (a, b) is put k times
    module _ (k : ℕ) (found : Counted c w (a, b) k) where
      points : AllPoints c (ps ++ replicate k (a, b))
      points = points_append c ps (replicate k (a, b)) s.points (go found)
        where
          go : Counted c w (a, b) k → AllPoints c (replicate k (a, b))
          go (inl (p, m)) = points_replicate c (a, b) p k
          go (inr (n, e)) = subst (λ (j : ℕ). AllPoints c (replicate j (a, b))) (sym e) tt

      here : ¬ Before (a, b) (a, b)
      here (inl h) = omega arith
      here (inr (e, h)) = omega arith

      times-at : times (a, b) (ps ++ replicate k (a, b)) ≡ k
      times-at = omega (arith, times_append (a, b) ps (replicate k (a, b)), s.later (a, b) here, times_replicate (a, b) k)

      times_off : (r : Pair) → ¬ (r ≡ (a, b)) → times r (ps ++ replicate k (a, b)) ≡ times r ps
      times_off r n = omega (arith, times_append r ps (replicate k (a, b)), times_replicate_other r (a, b) k n)

      before-next : (r : Pair) → ¬ (r ≡ (a, b)) → Before (a, suc b) r → Before (a, b) r
      before-next (x, y) n (inl h) = inl h
      before-next (x, y) n (inr (e, h)) = go (ℕ_discrete y b)
        where
          go : Dec (y ≡ b) → Before (a, b) (x, y)
          go (yes f) = absurd (n (ap₂ (λ (i j : ℕ). (i, j)) e f))
          go (no f) = inr (e, omega arith)

      next-before : (r : Pair) → Before (a, b) r → Before (a, suc b) r
      next-before (x, y) (inl h) = inl h
      next-before (x, y) (inr (e, h)) = inr (e, omega arith)

      pub seen-put : Seen c w (ps ++ replicate k (a, b)) (a, suc b)
      seen-put =
          record {
            points = points;
            often = λ r p h. often r p h (same-pair r (a, b));
            later = λ r h. later r h (same-pair r (a, b));
            rising = rising-copies ps (a, b) k s.rising (times_every (λ r. Rises r (a, b)) ps followed);
          }
        where
          -- what stands in ps came before (a, b)
          rises : (r : Pair) → Before (a, b) r → Rises r (a, b)
          rises (x, y) (inl h) = inl h
          rises (x, y) (inr (e, h)) = inr (e, omega arith)

          followed : (r : Pair) → ¬ (times r ps ≡ 0) → Rises r (a, b)
          followed r n = go (before_dec (a, b) r)
            where
              go : Dec (Before (a, b) r) → Rises r (a, b)
              go (yes h) = rises r h
              go (no h) = absurd (n (s.later r h))

          multiplicity : Counted c w (a, b) k → Point c (a, b) → IsMultiplicity c w (a, b) k
          multiplicity (inl (p, m)) q = m
          multiplicity (inr (n, e)) q = absurd (n q)

          often : (r : Pair) → Point c r → Before (a, suc b) r → Dec (r ≡ (a, b)) → IsMultiplicity c w r (times r (ps ++ replicate k (a, b)))
          often r p h (yes e) =
              subst (λ (z : Pair). Point c z → IsMultiplicity c w z (times z (ps ++ replicate k (a, b)))) (sym e)
              (λ q. subst (IsMultiplicity c w (a, b)) (sym times-at) (multiplicity found q)) p
          often r p h (no e) = subst (IsMultiplicity c w r) (sym (times_off r e)) (s.often r p (before-next r e h))

          next : Before (a, suc b) (a, b)
          next = inr (refl, omega arith)

          later : (r : Pair) → ¬ Before (a, suc b) r → Dec (r ≡ (a, b)) → times r (ps ++ replicate k (a, b)) ≡ 0
          later r n (yes e) = absurd (n (subst (Before (a, suc b)) (sym e) next))
          later r n (no e) = times_off r e ∙ s.later r (λ h. n (next-before r h))

  module _ {a : ℕ} (s : Seen c w ps (a, 0)) where
    pub seen-lines : (a' : ℕ) → a ≤ a' → ((n m : ℕ) → a ≤ n → n < a' → Point c (n, m) → IsMultiplicity c w (n, m) 0) → Seen c w ps (a', 0)
    seen-lines a' l none = further s up gap
      where
        up : (r : Pair) → Before (a, 0) r → Before (a', 0) r
        up (x, y) (inl h) = inl (omega arith)
        up (x, y) (inr (e, h)) = absurd (omega arith)

        gap : (r : Pair) → Point c r → Before (a', 0) r → ¬ Before (a, 0) r → IsMultiplicity c w r 0
        gap (x, y) p (inl h) n = none x y (low (dec_lt x a)) h p
          where
            low : Dec (x < a) → a ≤ x
            low (yes m) = absurd (n (inl m))
            low (no m) = omega arith
        gap (x, y) p (inr (e, h)) n = absurd (omega arith)

    pub seen_all : modulus c ≤ a → IsPoints c w ps
    seen_all l = record { points = s.points; often = λ r p. s.often r p (inside r p); rising = s.rising }
      where
        inside : (r : Pair) → Point c r → Before (a, 0) r
        inside (x, y) p = inl (omega (arith, p.0.0))

  pub seen-three : {q : Pair} → AcceptedCurve c → AcceptedDivisor (modulus c) (equation c) w → Seen c w ps q → length ps ≤ 3
  seen-three {q} A d s = points-three c A w d ps s.points (λ r p. go r p (before_dec q r))
    where
      go : (r : Pair) → Point c r → Dec (Before q r) → Inside (Ring c) (Ideal c w) (PointPower c r (times r ps))
      go r p (yes b) = (s.often r p b).inside
      go r p (no b) = subst (λ (k : ℕ). Inside (Ring c) (Ideal c w) (PointPower c r k)) (sym (s.later r b)) (λ h m. tt)
