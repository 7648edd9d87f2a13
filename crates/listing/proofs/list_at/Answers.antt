-- `listing::list_at` meets its contract. The loop's invariant is Line of proofs/Lines, its measure p − b, for the next root b.
use native.Mathlib.Omega.{arith}
use Rattle.listing.proofs.Lines.{line-start, line-next, line-end, line-here, line-past, put-most, put_asked}
use Rattle.listing.proofs.list_at.Goals as goal

pub loop-y-init : goal.loop-y-init
loop-y-init c = (c.root_from-y.ensures.below, line-start c.in_y-c.ensures c.root_from-y.ensures.found)

pub put-requires : goal.put-requires
put-requires c =
    let line = line-here c.loop-y.invariant.1 c.in-Some.is in
    put_asked c.requires.stands.divided c.requires.room (line.reached c.requires.first c.requires.reached) c.stands-k.ensures

pub overflow_add-m : goal.overflow_add-m
overflow_add-m c =
    let line = line-here c.loop-y.invariant.1 c.in-Some.is in
    omega (arith, put-most c.requires.stands.divided (line.reached c.requires.first c.requires.reached) c.stands-k.ensures)

pub loop-y-preserved : goal.loop-y-preserved
loop-y-preserved c =
    let root = c.root_from-y-in-Some.ensures in
    (root.below, line-next (line-here c.loop-y.invariant.1 c.in-Some.is) c.in_y-c.ensures c.stands-k.ensures c.put.ensures root.found)

pub returns : goal.returns
returns c = line-end (line-past c.loop-y.invariant.1 c.in_default.is) (omega arith)
