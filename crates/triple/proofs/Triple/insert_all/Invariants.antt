-- `Triple::insert_all` meets its contract. The loop's invariant is Filling of proofs/Filling.
use Rattle.triple.proofs.Filling.{Filling}
use Rattle.triple.proofs.Triple.insert_all.Given as goal

abbrev pub invariant-loop-j : goal.invariant-loop-j
invariant-loop-j l = Filling l.p l.initial.self.rows l.ys l.self.rows l.self.degrees l.j
