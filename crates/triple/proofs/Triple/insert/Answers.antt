-- `Triple::insert` meets its contract. The loop's invariant is Inserting of proofs/Insertion, its measure the sum of the degrees and n.
use native.Mathlib.Omega.{arith}
use Rattle.triple.proofs.Insertion.{insert_start, insert_asked, insert_more, insert_end}
use Rattle.triple.proofs.Triple.insert.Goals as goal

pub loop-n-init : goal.loop-n-init
loop-n-init c = insert_start c.requires

pub turn-n-requires : goal.turn-n-requires
turn-n-requires c = insert_asked c.loop-n.invariant c.loop-n-test.true

pub loop-n-smaller : goal.loop-n-smaller
loop-n-smaller c = omega (arith, c.turn-n.ensures.falls)

pub loop-n-preserved : goal.loop-n-preserved
loop-n-preserved c = insert_more c.loop-n.invariant c.turn-n.ensures

pub returns : goal.returns
returns c = insert_end c.loop-n.invariant (omega arith)
