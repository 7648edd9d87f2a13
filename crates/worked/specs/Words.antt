-- Document 02, 2026-03, "Faster comparison": examples on E, for the definition. The request's vectors, with E in bytes:
--   words E 0c000b000400000003000000 0c000b000400000003000000 = 3
--   words E 0c000b000400000003000000 0c000b000300000003000000 = 2
--   words E 0c000b000400000003000000 04000000 = 1
--   words E 04000000 04000000 = 1
--   Compares a b n     the call on a and b on E returns n, and nothing else
--   Examples           of (1, 2) and itself, of (1, 2) and (2, 2), of (1, 2) and zero, of zero and zero
use Rattle.std.specs.Prelude.{◌≡◌, List, [], ◌∷◌, ℕ, ℤ, pos}
use Rattle.divisor.specs.Kind.{k11}
use Rattle.calls.specs.Call.{CompareWords}
use Rattle.worked.specs.Table.{divisor, E, one_two, zero_class}

abbrev pub Compares : (a b : List ℕ) (n : ℕ) → Type 0
Compares a b n = CompareWords E a b (pos n) × ((r : ℤ) → CompareWords E a b r → r ≡ pos n)

abbrev pub Examples : Type 0
Examples =
    Compares one_two one_two 3 × Compares one_two (divisor k11 (3 ∷ 3 ∷ [])) 2 × Compares one_two zero_class 1 × Compares zero_class zero_class 1
