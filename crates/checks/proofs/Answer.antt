-- Laws of numbers below p, and of nine numbers.
--   below_at, at-below    all numbers of a list are below p
--   nine                  what holds of 0 to 8 holds of each i below 9
use mathlib.Core.List.{List, [], ◌∷◌}
use Prim.Native.Nat.{ℕ, zero, suc, ◌<◌}
use native.Mathlib.Omega.{arith}
use lib.ListN.{length, get_or}
use Rattle.checks.specs.Contract.{AllBelow}

pub below_at : (p : ℕ) (ns : List ℕ) → AllBelow p ns → (i : ℕ) → i < length ns → get_or ns i 0 < p
below_at p [] h i l = absurd (omega arith)
below_at p (n ∷ ns) h zero l = h.0
below_at p (n ∷ ns) h (suc i) l = below_at p ns h.1 i (omega arith)

pub at-below : (p : ℕ) (ns : List ℕ) → ((i : ℕ) → i < length ns → get_or ns i 0 < p) → AllBelow p ns
at-below p [] h = tt
at-below p (n ∷ ns) h = (h 0 (omega arith), at-below p ns (λ i l. h (suc i) (omega arith)))

pub nine : (P : ℕ → Type 0) → P 0 → P 1 → P 2 → P 3 → P 4 → P 5 → P 6 → P 7 → P 8 → (i : ℕ) → i < 9 → P i
nine P a b c d e f g h k zero l = a
nine P a b c d e f g h k (suc zero) l = b
nine P a b c d e f g h k (suc (suc zero)) l = c
nine P a b c d e f g h k (suc (suc (suc zero))) l = d
nine P a b c d e f g h k (suc (suc (suc (suc zero)))) l = e
nine P a b c d e f g h k (suc (suc (suc (suc (suc zero))))) l = f
nine P a b c d e f g h k (suc (suc (suc (suc (suc (suc zero)))))) l = g
nine P a b c d e f g h k (suc (suc (suc (suc (suc (suc (suc zero))))))) l = h
nine P a b c d e f g h k (suc (suc (suc (suc (suc (suc (suc (suc zero)))))))) l = k
nine P a b c d e f g h k (suc (suc (suc (suc (suc (suc (suc (suc (suc i))))))))) l = absurd (omega arith)
