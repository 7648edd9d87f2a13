-- Tests by computation, and what they show.
--   below p f k        test: f 0, …, f (k − 1) are below p; below_sound: then they are
--   prime p            test: p is a prime; prime_sound
--   bytes s            test: every element of s is below 256; bytes_sound
use mathlib.Core.Path.{◌≡◌}
use mathlib.Core.Bool.{Bool, true}
use mathlib.Core.Logic.{◌⊎◌, inl, inr}
use mathlib.Core.List.{List, [], ◌∷◌}
use Prim.Native.Nat.{ℕ, zero, suc, ◌%◌, ◌<◌}
use native.Mathlib.Omega.{arith}
use lib.Dec.{T, leb, ltb, leb→le, ltb→lt}
use Rattle.algebra.proofs.Test.{both, both_left, both_right, either, of_either, all_below, all_below-at}
use Rattle.prime.specs.Prime.{Prime}
use Rattle.layout.specs.Layout.{Bytes}

abbrev pub below : ℕ → (ℕ → ℕ) → ℕ → Bool
below p f k = all_below (λ i. ltb (f i) p) k

pub below_sound : (p : ℕ) (f : ℕ → ℕ) (k : ℕ) → T (below p f k) → (i : ℕ) → i < k → f i < p
below_sound p f k t i h = ltb→lt (f i) p (all_below-at (λ j. ltb (f j) p) k t i h)

abbrev pub bytes : List ℕ → Bool
bytes [] = true
bytes (b ∷ s) = both (ltb b 256) (bytes s)

pub bytes_sound : (s : List ℕ) → T (bytes s) → Bytes s
bytes_sound [] t i = omega arith
bytes_sound (b ∷ s) t zero = ltb→lt b 256 (both_left (ltb b 256) (bytes s) t)
bytes_sound (b ∷ s) t (suc i) = bytes_sound s (both_right (ltb b 256) (bytes s) t) i

-- d is 0 or 1, or does not divide p
abbrev undivided : ℕ → ℕ → Bool
undivided p d = either (leb d 1) (ltb 0 (p % d))

undivided_sound : (p d : ℕ) → T (undivided p d) → 1 < d → p % d ≡ 0 → ⊥
undivided_sound p d t l e = go (of_either (leb d 1) (ltb 0 (p % d)) t)
  where
    go : T (leb d 1) ⊎ T (ltb 0 (p % d)) → ⊥
    go (inl s) = omega (arith, leb→le d 1 s)
    go (inr s) = omega (arith, ltb→lt 0 (p % d) s)

abbrev pub prime : ℕ → Bool
prime p = both (leb 2 p) (all_below (undivided p) p)

pub prime_sound : (p : ℕ) → T (prime p) → Prime p
prime_sound p t =
    record {
      two_le = leb→le 2 p (both_left (leb 2 p) _ t);
      only = λ d l m e. undivided_sound p d (all_below-at (undivided p) p (both_right (leb 2 p) _ t) d m) l e;
    }
