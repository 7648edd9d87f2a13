-- The walk by bytes says 1 or 0.
use mathlib.Core.Path.{refl}
use mathlib.Core.Logic.{inl, inr}
use Rattle.bench_words.proofs.bench_by_bytes.Goals as goal

pub returns-then-same_bytes : goal.returns-then-same_bytes
returns-then-same_bytes c = inl (c.same_bytes.ensures.holds c.if-same_bytes.true, refl)

pub returns-else-same_bytes : goal.returns-else-same_bytes
returns-else-same_bytes c = inr (c.same_bytes.ensures.fails c.if-same_bytes.false, refl)
