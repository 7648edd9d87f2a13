-- `span::reduce` meets its contract. The loop's invariant is Reducing of proofs/Reduction.
use native.Mathlib.Omega.{arith}
use Rattle.span.proofs.Reduction.{reduce_start, reduce_asked, reduce_clear, reduce_skip, reduce_end}
use Rattle.span.proofs.reduce.Goals as goal

pub loop-n-init : goal.loop-n-init
loop-n-init c = reduce_start c.requires

pub clear-requires : goal.clear-requires
clear-requires c = reduce_asked c.loop-n.invariant (omega arith) c.if-e-n.true

pub loop-n-preserved-then-e-n : goal.loop-n-preserved-then-e-n
loop-n-preserved-then-e-n c = reduce_clear c.loop-n.invariant (omega arith) c.if-e-n.true c.clear.ensures

pub loop-n-preserved : goal.loop-n-preserved
loop-n-preserved c = reduce_skip c.loop-n.invariant (omega arith) c.if-e-n.false

pub returns : goal.returns
returns c = reduce_end c.loop-n.invariant (omega arith)
