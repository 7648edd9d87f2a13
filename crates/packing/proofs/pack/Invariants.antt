-- `packing::pack` meets its contract. The loop's invariant: the numbers so far are taken up; of their bits `done` bytes are written, and `held` holds the rest.
use Rattle.packing.proofs.Taken.{Taken}
use Rattle.packing.proofs.pack.Given as goal

abbrev pub invariant-loop-n : goal.invariant-loop-n
invariant-loop-n l = Taken l.initial.out l.at l.ns l.w l.out l.n-index l.done l.held l.bits
