-- Elements of the colon ideal (f : J), f least in J with the pole number d.
--   Killed J lam m g       J has an element u of pole number d + m for which the functional lam is 0 at g·u
--   member                 g is in (f : J) if J has no lead d + m or g is killed at m, for m = 1, 2, 5
--   all-members            every g is in (f : J) if J has none of these leads
use mathlib.Core.Path.{◌≡◌, sym, subst}
use mathlib.Core.Logic.{◌⊎◌, inl, inr}
use Prim.Native.Nat.{ℕ, ◌+◌, ◌<◌, ◌≤◌}
use native.Mathlib.Omega.{arith}
use Rattle.algebra.specs.Ring.{CommRing, Field}
use Rattle.ideal.specs.Ideal.{IsIdeal, Colon}
use Rattle.ideal.specs.Poles.{largest_gap, IsGap, Poles, HasPole}
use Rattle.ideal.proofs.Leads.{Lead}
use Rattle.ideal.proofs.Colon.{Taken}
use Rattle.ideal.proofs.Recognise.{colon_member}
use Rattle.curve.specs.Curve.{Curve, Coordinate}
use Rattle.curve.specs.Monomial.{Below}
use Rattle.curve.proofs.Filtration.{below_more}
use Rattle.curve.proofs.Product.{product-below}
use Rattle.poles.specs.Poles.{poles}
use Rattle.functional.specs.Functional.{apply, Functional}
use Rattle.functional.proofs.Kernel.{functional_kernel}

-- what holds at the gaps 1, 2 and 5
by_gap : (A : ℕ → Type 0) → A 1 → A 2 → A 5 → (m : ℕ) → IsGap m → A m
by_gap A a b c m (inl e) = subst A (sym e) a
by_gap A a b c m (inr (inl e)) = subst A (sym e) b
by_gap A a b c m (inr (inr e)) = subst A (sym e) c

pub all-members : {R : CommRing} (P : Poles R) {f : R.Car} {d : ℕ} → HasPole P f d → {J : R.Car → Type 0} → IsIdeal R J → J f → ((h : R.Car) (n : ℕ) → J h → HasPole P h n → d ≤ n)
    → ¬ Lead P J (d + 1) → ¬ Lead P J (d + 2) → ¬ Lead P J (d + 5) → (g : R.Car) → Colon R f J g
all-members P {f} {d} pf {J} i m lowest a b c g =
    colon_member P pf i m lowest g (by_gap (λ n. (¬ Lead P J (d + n)) ⊎ Taken P f d J g (d + n)) (inl a) (inl b) (inl c))

module _ (K : Field) (C : Curve K.ring) (nonzero : ¬ (C.a0 ≡ K.ring.zero)) (N d : ℕ) where
  open Coordinate C use {Car as El, mul as ◌⊗◌}

  infixl 70 ◌⊗◌
  abbrev pub Killed : (El → Type 0) → (ℕ → K.ring.Car) → ℕ → El → Type 0
  Killed J lam m g = (u : El) × J u × HasPole (poles K C nonzero) u (d + m) × (apply C N lam (g ⊗ u) ≡ K.ring.zero)

  module _ {f : El} {lam : ℕ → K.ring.Car} (F : Functional C N f d lam) (room : d + largest_gap < N) (pf : HasPole (poles K C nonzero) f d) {J : El → Type 0} where
    taken : (m : ℕ) → m ≤ 5 → (g : El) → Below C 9 g → (¬ Lead (poles K C nonzero) J (d + m)) ⊎ Killed J lam m g
        → (¬ Lead (poles K C nonzero) J (d + m)) ⊎ Taken (poles K C nonzero) f d J g (d + m)
    unfolding poles
    taken m l g b (inl none) = inl none
    taken m l g b (inr (u, mu, pu, e)) =
        inr (u, mu, pu, functional_kernel K C N F nonzero pf room (below_more C (omega arith) (product-below C {m = 8} b pu.upper)) e)

    pub member : IsIdeal (Coordinate C) J → J f → ((h : El) (n : ℕ) → J h → HasPole (poles K C nonzero) h n → d ≤ n) → (g : El) → Below C 9 g
        → (¬ Lead (poles K C nonzero) J (d + 1)) ⊎ Killed J lam 1 g
        → (¬ Lead (poles K C nonzero) J (d + 2)) ⊎ Killed J lam 2 g
        → (¬ Lead (poles K C nonzero) J (d + 5)) ⊎ Killed J lam 5 g → Colon (Coordinate C) f J g
    member i m lowest g b x y z =
        colon_member (poles K C nonzero) pf i m lowest g
        (by_gap (λ n. (¬ Lead (poles K C nonzero) J (d + n)) ⊎ Taken (poles K C nonzero) f d J g (d + n))
        (taken 1 (omega arith) g b x) (taken 2 (omega arith) g b y) (taken 5 (omega arith) g b z))
