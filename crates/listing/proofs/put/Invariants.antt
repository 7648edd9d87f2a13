-- `listing::put` meets its contract. The loop's invariant is Putting of proofs/Slices.
use Rattle.listing.proofs.Slices.{Putting}
use Rattle.listing.proofs.put.Given as goal

abbrev pub invariant-loop-i : goal.invariant-loop-i
invariant-loop-i l = Putting l.initial.out l.n l.a l.b l.k l.i l.out
