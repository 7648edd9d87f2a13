-- The records before `rest` are read, and `made` is made of them. The measure is the length of the rest.
use lib.ListN.{length}
use Rattle.lists.proofs.Walk.{Walked}
use Rattle.lists.proofs.fold_records.Given as goal

abbrev pub invariant-loop-rest : goal.invariant-loop-rest
invariant-loop-rest g l = Walked (goal.F-post g l.step) l.g l.list l.fn.start l.made l.rest

abbrev pub decreases-loop-rest : goal.decreases-loop-rest
decreases-loop-rest g l = length l.rest
