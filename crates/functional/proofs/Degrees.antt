-- The degrees d, d1, d2 of the triple of an ideal J: d the least, and d1 and d2 in the classes of d + 1 and d + 2 modulo 3.
--   Degrees P J d d1 d2    … and each lead of J is at least the degree of its class
--   degrees-lowest         d is the lowest lead
--   Steps d d1 d2          (d1 − d, d2 − d) is (1, 2), (4, 2), (1, 5), (4, 5) or (4, 8)
--   steps                  … for an ideal that has the leads d and d1
--   none_1, none_2, none_5 J has no lead d + 1, d + 2, d + 5 if d1 is larger, d2 is larger, d2 is d + 8
use mathlib.Core.Path.{◌≡◌, refl}
use Prim.Native.Nat.{ℕ, ◌+◌, ◌%◌, ◌≤◌}
use native.Mathlib.Omega.{arith}
use native.Mathlib.Decide.{ℕ_discrete}
use Rattle.algebra.specs.Ring.{CommRing}
use Rattle.ideal.specs.Ideal.{IsIdeal}
use Rattle.ideal.specs.Poles.{Poles, HasPole}
use Rattle.ideal.proofs.Degree.{mono-has, pole-mul}
use Rattle.ideal.proofs.Leads.{Lead}
use Rattle.ideal.proofs.Span.{four_pole}

pub data Steps (d d1 d2 : ℕ) : Type 0 where
  steps_31 : d1 ≡ d + 1 → d2 ≡ d + 2 → Steps d d1 d2
  steps_21 : d1 ≡ d + 4 → d2 ≡ d + 2 → Steps d d1 d2
  steps_22 : d1 ≡ d + 1 → d2 ≡ d + 5 → Steps d d1 d2
  steps_11 : d1 ≡ d + 4 → d2 ≡ d + 5 → Steps d d1 d2
  steps_0 : d1 ≡ d + 4 → d2 ≡ d + 8 → Steps d d1 d2

module _ {R : CommRing} (P : Poles R) (J : R.Car → Type 0) where
  pub record Degrees (d d1 d2 : ℕ) : Type 0 where
    pub least_1 : d ≤ d1
    pub least_2 : d ≤ d2
    pub class_1 : d1 % 3 ≡ (d + 1) % 3
    pub class_2 : d2 % 3 ≡ (d + 2) % 3
    pub lead_0 : (n : ℕ) → n % 3 ≡ d % 3 → Lead P J n → d ≤ n
    pub lead_1 : (n : ℕ) → n % 3 ≡ (d + 1) % 3 → Lead P J n → d1 ≤ n
    pub lead_2 : (n : ℕ) → n % 3 ≡ (d + 2) % 3 → Lead P J n → d2 ≤ n

  module _ {d d1 d2 : ℕ} (D : Degrees d d1 d2) where
    pub degrees-lowest : (h : R.Car) (n : ℕ) → J h → HasPole P h n → d ≤ n
    degrees-lowest h n m p = go (ℕ_discrete (n % 3) (d % 3)) (ℕ_discrete (n % 3) ((d + 1) % 3))
      where
        go : Dec (n % 3 ≡ d % 3) → Dec (n % 3 ≡ (d + 1) % 3) → d ≤ n
        go (yes e) c = D.lead_0 n e (h, m, p)
        go (no e) (yes c) = omega (arith, D.least_1, D.lead_1 n c (h, m, p))
        go (no e) (no c) = omega (arith, D.least_2, D.lead_2 n (omega arith) (h, m, p))

    pub none_1 : d1 ≡ d + 4 → ¬ Lead P J (d + 1)
    none_1 e l = let h : d1 ≤ d + 1 = D.lead_1 (d + 1) refl l in omega arith

    pub none_2 : d + 5 ≤ d2 → ¬ Lead P J (d + 2)
    none_2 e l = let h : d2 ≤ d + 2 = D.lead_2 (d + 2) refl l in omega arith

    pub none_5 : d + 8 ≤ d2 → ¬ Lead P J (d + 5)
    none_5 e l = let h : d2 ≤ d + 5 = D.lead_2 (d + 5) (omega arith) l in omega arith

    module _ (i : IsIdeal R J) (lf : Lead P J d) (lu : Lead P J d1) where
      y-lead : {n : ℕ} → Lead P J n → Lead P J (4 + n)
      y-lead (u, m, p) = (R.mul (P.mono 4) u, i.times (P.mono 4) m, pole-mul P (mono-has P (four_pole P)) p)

      high_1 : d1 ≤ d + 4
      high_1 = omega (arith, D.lead_1 (4 + d) (omega arith) (y-lead lf))

      high_2 : d2 ≤ d + 8
      high_2 = omega (arith, D.lead_2 (4 + (4 + d)) (omega arith) (y-lead (y-lead lf)))

      high_3 : d2 ≤ d1 + 4
      high_3 = omega (arith, D.lead_2 (4 + d1) (omega (arith, D.class_1)) (y-lead lu))

      pub steps : Steps d d1 d2
      steps = go (ℕ_discrete d1 (d + 1)) (ℕ_discrete d2 (d + 2)) (ℕ_discrete d2 (d + 5))
        where
          at_1 : ¬ (d1 ≡ d + 1) → d1 ≡ d + 4
          at_1 n = omega (arith, D.least_1, D.class_1, high_1)

          at_2 : ¬ (d2 ≡ d + 2) → ¬ (d2 ≡ d + 5) → d2 ≡ d + 8
          at_2 n m = omega (arith, D.least_2, D.class_2, high_2)

          go : Dec (d1 ≡ d + 1) → Dec (d2 ≡ d + 2) → Dec (d2 ≡ d + 5) → Steps d d1 d2
          go (yes a) (yes b) c = steps_31 a b
          go (yes a) (no b) (yes c) = steps_22 a c
          go (yes a) (no b) (no c) = absurd (omega (arith, at_2 b c, high_3))
          go (no a) (yes b) c = steps_21 (at_1 a) b
          go (no a) (no b) (yes c) = steps_11 (at_1 a) c
          go (no a) (no b) (no c) = steps_0 (at_1 a) (at_2 b c)
