-- Tests by computation, and what they show.
--   both, both_left, both_right     two tests pass, and so each of them
--   either, of_either               one of two tests passes
--   all_below f n, all_below-at     the test f passes at every number below n, and so at each
use mathlib.Core.Path.{◌≡◌, sym, subst}
use mathlib.Core.Bool.{Bool, true, false}
use mathlib.Core.Logic.{◌⊎◌, inl, inr}
use Prim.Native.Nat.{ℕ, zero, suc, ◌<◌}
use native.Mathlib.Omega.{arith}
use native.Mathlib.Decide.{ℕ_discrete}
use lib.Dec.{T}

abbrev pub both : Bool → Bool → Bool
both true b = b
both false b = false

pub both_left : (a b : Bool) → T (both a b) → T a
both_left true b t = tt
both_left false b t = t

pub both_right : (a b : Bool) → T (both a b) → T b
both_right true b t = t
both_right false b t = absurd t

abbrev pub either : Bool → Bool → Bool
either true b = true
either false b = b

pub of_either : (a b : Bool) → T (either a b) → T a ⊎ T b
of_either true b t = inl tt
of_either false b t = inr t

abbrev pub all_below : (ℕ → Bool) → ℕ → Bool
all_below f zero = true
all_below f (suc n) = both (all_below f n) (f n)

pub all_below-at : (f : ℕ → Bool) (n : ℕ) → T (all_below f n) → (m : ℕ) → m < n → T (f m)
all_below-at f zero t m h = absurd (omega arith)
all_below-at f (suc n) t m h = go (both_right (all_below f n) (f n) t) (all_below-at f n (both_left (all_below f n) (f n) t) m) (ℕ_discrete m n)
  where
    go : T (f n) → (m < n → T (f m)) → Dec (m ≡ n) → T (f m)
    go here low (yes e) = subst (λ (k : ℕ). T (f k)) (sym e) here
    go here low (no e) = low (omega arith)
