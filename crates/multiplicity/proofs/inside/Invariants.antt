-- `multiplicity::inside` meets its contract. The loop's invariant is Within of proofs/Rests.
use Rattle.multiplicity.proofs.Rests.{Within}
use Rattle.multiplicity.proofs.inside.Given as goal

abbrev pub invariant-loop-j : goal.invariant-loop-j
invariant-loop-j l = Within l.p l.t.rows l.t.degrees l.s.rows l.s.degrees l.j
