-- Two solutions of the equations, one of them with F2 ≢ 0, are the same.
--   cancel                 a ≢ 0 can be cancelled
--   nine_by                what holds of 0 … 8, number by number
--   equations_unique       the solutions have the same nine numbers
use mathlib.Core.Path.{◌≡◌, sym, ◌∙◌}
use Prim.Native.Nat.{ℕ, zero, suc, ◌<◌}
use native.Mathlib.Omega.{arith}
use Rattle.algebra.specs.Ring.{CommRing, Field}
use Rattle.algebra.proofs.Laws as laws
use Rattle.algebra.proofs.Solve.{solve, ◌⊞◌, ◌⊠◌, ⊟◌}
use Rattle.curve.specs.Curve.{Curve}
use Rattle.curve.proofs.Poles.{no-zero_divisors}
use Rattle.type61_numbers.proofs.Equations.{Equations}

pub nine_by : (Q : ℕ → Type 0) → Q 0 → Q 1 → Q 2 → Q 3 → Q 4 → Q 5 → Q 6 → Q 7 → Q 8 → (i : ℕ) → i < 9 → Q i
nine_by Q q0 q1 q2 q3 q4 q5 q6 q7 q8 zero l = q0
nine_by Q q0 q1 q2 q3 q4 q5 q6 q7 q8 (suc zero) l = q1
nine_by Q q0 q1 q2 q3 q4 q5 q6 q7 q8 (suc (suc zero)) l = q2
nine_by Q q0 q1 q2 q3 q4 q5 q6 q7 q8 (suc (suc (suc zero))) l = q3
nine_by Q q0 q1 q2 q3 q4 q5 q6 q7 q8 (suc (suc (suc (suc zero)))) l = q4
nine_by Q q0 q1 q2 q3 q4 q5 q6 q7 q8 (suc (suc (suc (suc (suc zero))))) l = q5
nine_by Q q0 q1 q2 q3 q4 q5 q6 q7 q8 (suc (suc (suc (suc (suc (suc zero)))))) l = q6
nine_by Q q0 q1 q2 q3 q4 q5 q6 q7 q8 (suc (suc (suc (suc (suc (suc (suc zero))))))) l = q7
nine_by Q q0 q1 q2 q3 q4 q5 q6 q7 q8 (suc (suc (suc (suc (suc (suc (suc (suc zero)))))))) l = q8
nine_by Q q0 q1 q2 q3 q4 q5 q6 q7 q8 (suc (suc (suc (suc (suc (suc (suc (suc (suc i))))))))) l = absurd (omega arith)

cancel : (K : Field) (a b d : K.ring.Car) → ¬ (a ≡ K.ring.zero) → K.ring.mul a b ≡ K.ring.mul a d → b ≡ d
cancel K a b d h e =
    laws.sub-zero→eq K.ring b d
    (no-zero_divisors K a (K.ring.add b (K.ring.neg d)) (apart a b d ∙ laws.eq→sub-zero K.ring (K.ring.mul a b) (K.ring.mul a d) e) h)
  where
    apart : (a b d : K.ring.Car) → K.ring.mul a (K.ring.add b (K.ring.neg d)) ≡ K.ring.add (K.ring.mul a b) (K.ring.neg (K.ring.mul a d))
    apart = solve K.ring 3 (λ a b d. a ⊠ (b ⊞ ⊟ d)) (λ a b d. a ⊠ b ⊞ ⊟ (a ⊠ d)) tt

-- a difference and what was taken away
restored : (R : CommRing) (a b : R.Car) → a ≡ R.add (R.add a (R.neg b)) b
restored R = solve R 2 (λ a b. a) (λ a b. a ⊞ ⊟ b ⊞ b) tt

module _ (K : Field) (C : Curve K.ring) (us vs r n : ℕ → K.ring.Car) (e : Equations C us vs r) (e' : Equations C us vs n) where
  open K.ring use {Car, add as ◌⊕◌, mul as ◌⊗◌, neg as ⊖◌}

  infixl 60 ◌⊕◌
  infixl 70 ◌⊗◌
  infix 80 ⊖◌
  second-same : r 2 ≡ n 2
  second-same = e.F2 ∙ sym e'.F2

  apart-same : r 1 ⊕ ⊖ r 5 ≡ n 1 ⊕ ⊖ n 5
  apart-same = cc (second-same, e.F1_G2, e'.F1_G2)

  fourth_same : r 4 ≡ n 4
  fourth_same = cc (second-same, apart-same, e.G1, e'.G1)

  module _ (h : ¬ (r 2 ≡ K.ring.zero)) where
    lift : {a b : Car} → r 2 ⊗ a ≡ n 2 ⊗ b → a ≡ b
    lift {a} {b} q = cancel K (r 2) a b h (cc (q, second-same))

    fifth_same : r 5 ≡ n 5
    fifth_same = lift (cc (second-same, apart-same, fourth_same, e.F2G2, e'.F2G2))

    first-same : r 1 ≡ n 1
    first-same = cc (restored K.ring (r 1) (r 5), restored K.ring (n 1) (n 5), apart-same, fifth_same)

    zeroth-same : r 0 ≡ n 0
    zeroth-same = cc (first-same, second-same, fourth_same, fifth_same, e.F0, e'.F0)

    third-same : r 3 ≡ n 3
    third-same = cc (zeroth-same, first-same, second-same, fourth_same, fifth_same, e.G0, e'.G0)

    pub equations_unique : (i : ℕ) → i < 9 → r i ≡ n i
    equations_unique =
        nine_by (λ i. r i ≡ n i) zeroth-same first-same second-same third-same fourth_same fifth_same
        (lift (cc (zeroth-same, third-same, fourth_same, apart-same, e.F2H0, e'.F2H0)))
        (lift (cc (third-same, fourth_same, fifth_same, e.F2H1, e'.F2H1)))
        (lift (cc (zeroth-same, second-same, fourth_same, fifth_same, apart-same, e.F2H2, e'.F2H2)))
