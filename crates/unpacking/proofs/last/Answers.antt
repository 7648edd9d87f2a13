-- `unpacking::last` meets its contract. The loop's invariant: n is the number of the bytes from place i on.
use Rattle.std.proofs.Common.{arith}
use Rattle.unpacking.proofs.Steps.{summed-start, summed-more, summed-all}
use Rattle.unpacking.proofs.last.Goals as goal

pub loop-i-init : goal.loop-i-init
loop-i-init c = summed-start _ c.args.at _ (omega arith)

pub loop-i-preserved : goal.loop-i-preserved
loop-i-preserved c =
    summed-more c.args.s.now _ _ _ (λ i. omega (arith, c.type_inv.s i)) (omega arith) (omega arith) c.loop-i.invariant

pub returns : goal.returns
returns c = summed-all _ _ _ _ (omega arith) c.loop-i.invariant
