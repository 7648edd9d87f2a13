-- `packing::bytes` meets its contract. The loop's invariant: the bytes up to `place` are written, and `left` is the rest of the number.
use native.Mathlib.Omega.{arith}
use Rattle.packing.proofs.Laid.{written_none, written-more, written_all}
use Rattle.packing.proofs.bytes.Goals as goal

pub loop-place-init : goal.loop-place-init
loop-place-init c = written_none _ _ _ _ (omega arith)

pub loop-place-preserved : goal.loop-place-preserved
loop-place-preserved c = written-more _ _ _ _ _ _ _ (omega arith) (omega arith) c.loop-place.invariant

pub returns : goal.returns
returns c = written_all _ _ _ _ _ _ _ (omega arith) c.loop-place.invariant
