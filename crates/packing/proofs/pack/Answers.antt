-- `packing::pack` meets its contract. The loop's invariant: the numbers so far are taken up; of their bits `done` bytes are written, and `held` holds the rest.
use Rattle.std.proofs.Common.{◌∙◌, arith}
use Rattle.std.proofs.lemmas.Grind.{common_steps}
use Rattle.packing.proofs.Taken.{taken_none, taken_held, taken_written, taken_all}
use Rattle.packing.proofs.pack.Goals as goal
use Rattle.packing.proofs.pack.Goals.{then-bits-ge32, else-bits-ge32}

pub loop-n-init : goal.loop-n-init
loop-n-init c = taken_none _ _ _ _ c.requires

pub loop-n-preserved : goal.loop-n-preserved
loop-n-preserved c =
    elim c.if-bits-ge32.branch [
      | then-bits-ge32 w ↦
          taken_written _ _ _ _ c.requires _ _ _ _ _ c.loop-n.invariant c.loop-n-test.true _ c.from.ensures w.if-bits-ge32.true _ _ _ _
          w.done-is w.held-is (omega arith) (w.out-is ∙ w.write_u32.ensures) c.if-bits-ge32.auto.out
      | else-bits-ge32 w ↦
          taken_held _ _ _ _ c.requires _ _ _ _ _ c.loop-n.invariant c.loop-n-test.true _ c.from.ensures _ _ _ _
          w.out-is w.done-is w.held-is w.bits-is w.if-bits-ge32.false
    ]

pub returns : goal.returns
returns c =
    taken_all _ _ _ _ c.requires _ _ _ _ _ c.loop-n.invariant _ _ (omega arith) c.div_ceil-left.ensures (grind (arith, common_steps, c.bytes.ensures))
