-- `words::compare` meets its contract. The loop's invariant: the words before the i-th agree.
use Rattle.words.proofs.Compared.{Before}
use Rattle.words.proofs.compare.Given as goal

abbrev pub invariant-loop-i : goal.invariant-loop-i
invariant-loop-i l = Before l.a l.b l.i
