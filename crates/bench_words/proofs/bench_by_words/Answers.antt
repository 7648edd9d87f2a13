-- The walk by words says 1 or 0.
use mathlib.Core.Path.{refl}
use mathlib.Core.Logic.{inl, inr}
use Rattle.bench_words.proofs.bench_by_words.Goals as goal

pub returns-then-walk : goal.returns-then-walk
returns-then-walk c = inl (c.compare-walk.ensures.same.holds c.if-walk.true, refl)

pub returns-else-walk : goal.returns-else-walk
returns-else-walk c = inr (c.compare-walk.ensures.same.fails c.if-walk.false, refl)
