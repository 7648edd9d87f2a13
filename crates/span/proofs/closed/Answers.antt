-- `span::closed` meets its contract. The loop's invariant is Closing of proofs/Reduction.
use mathlib.Core.Path.{ap}
use mathlib.Core.Bool.{not}
use native.Mathlib.Omega.{arith}
use Rattle.span.proofs.Reduction.{closed-start, closed-more, closed_stop, closed-end}
use Rattle.span.proofs.closed.Goals as goal

pub loop-j-init : goal.loop-j-init
loop-j-init c = closed-start c.requires

pub closed_at-requires : goal.closed_at-requires
closed_at-requires c = record { closed = c.loop-j.invariant.asked; inside = c.loop-j-test.true }

pub returns-then-not-closed_at : goal.returns-then-not-closed_at
returns-then-not-closed_at c = closed_stop c.loop-j.invariant c.closed_at.ensures (ap not c.if-not-closed_at.true)

pub loop-j-preserved : goal.loop-j-preserved
loop-j-preserved c = closed-more c.loop-j.invariant c.closed_at.ensures (ap not c.if-not-closed_at.false)

pub returns : goal.returns
returns c = closed-end c.loop-j.invariant (omega arith)
