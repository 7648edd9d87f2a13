-- `packing::bytes` meets its contract. The loop's invariant: the bytes up to `place` are written, and `left` is the rest of the number.
use Rattle.packing.proofs.Laid.{Written}
use Rattle.packing.proofs.bytes.Given as goal

abbrev pub invariant-loop-place : goal.invariant-loop-place
invariant-loop-place l = Written l.initial.out l.at l.end l.n l.out l.place l.left
