-- After i products the rest is still to be added, or to be taken.
use Rattle.chains.proofs.Loops.{Adding, Taking}
use Rattle.chains.proofs.sum.Given as goal

abbrev pub invariant-loop-a : goal.invariant-loop-a
invariant-loop-a g l = Adding l.modulus.p l.x l.a-items l.a-index l.total

abbrev pub invariant-loop-c : goal.invariant-loop-c
invariant-loop-c g l = Taking l.modulus.p l.initial.total l.c-items l.c-index l.total
