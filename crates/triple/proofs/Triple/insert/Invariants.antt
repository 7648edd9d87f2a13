-- `Triple::insert` meets its contract. The loop's invariant is Inserting of proofs/Insertion, its measure the sum of the degrees and n.
use Prim.Native.Nat.{◌+◌}
use Rattle.triple.specs.Contract.{degrees}
use Rattle.triple.proofs.Insertion.{Inserting}
use Rattle.triple.proofs.Triple.insert.Given as goal

abbrev pub invariant-loop-n : goal.invariant-loop-n
invariant-loop-n l = Inserting l.p l.initial.self.rows l.initial.self.degrees l.initial.v l.self.rows l.self.degrees l.v l.n

abbrev pub decreases-loop-n : goal.decreases-loop-n
decreases-loop-n l = degrees l.self.degrees + l.n
