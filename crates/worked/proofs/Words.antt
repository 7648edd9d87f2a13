-- Document 02, 2026-03: how many pairs of words are compared, on E.
--   compares           the call on accepted records returns what is computed
--   words_examples     the examples hold
use mathlib.Core.Path.{◌≡◌, refl, sym, ap}
use mathlib.Core.List.{List, [], ◌∷◌}
use Prim.Native.Nat.{ℕ}
use lib.IntN.{pos}
use Rattle.divisor.specs.Kind.{k11}
use Rattle.layout.specs.Layout.{number4, numbers, bytes2, bytes4, all_bytes4, record_bytes}
use Rattle.words.specs.Words.{words, compared}
use Rattle.calls.specs.Answer.{answered}
use Rattle.calls.specs.Class.{Record}
use Rattle.calls.specs.Call.{CompareWords}
use Rattle.calls.proofs.Class.{zero-accepted}
use Rattle.calls.proofs.Exists.{two-passes}
use Rattle.calls.proofs.Determined.{words_determined}
use Rattle.worked.specs.Table.{divisor, E, one_two, zero_class}
use Rattle.worked.specs.Words.{Compares, Examples}
use Rattle.worked.proofs.Points.{sum_row}

compares : (a b : List ℕ) (n : ℕ) → Record E a → Record E b → compared (words a) (words b) ≡ n → Compares a b n
compares a b n h k e = (call, λ r t. words_determined E a b r (pos n) t call)
  where
    call : CompareWords E a b (pos n)
    call = answered (two-passes E sum_row.0 a b h.1 k.1) (ap pos (sym e))

pub words_examples : Examples
unfolding compared numbers number4 bytes2 bytes4 all_bytes4 record_bytes
words_examples = (
  compares one_two one_two 3 sum_row.1 sum_row.1 refl,
  compares one_two (divisor k11 (3 ∷ 3 ∷ [])) 2 sum_row.1 sum_row.2 refl,
  compares one_two zero_class 1 sum_row.1 (zero-accepted E) refl,
  compares zero_class zero_class 1 (zero-accepted E) (zero-accepted E) refl,
)
