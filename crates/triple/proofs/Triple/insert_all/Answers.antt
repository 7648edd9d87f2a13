-- `Triple::insert_all` meets its contract. The loop's invariant is Filling of proofs/Filling.
use native.Mathlib.Omega.{arith}
use Rattle.triple.proofs.Filling.{fill_start, fill_asked, fill_more, fill_end, fill_stop}
use Rattle.triple.proofs.Triple.insert_all.Goals as goal

pub loop-j-init : goal.loop-j-init
loop-j-init c = fill_start c.requires

pub returns-then-is_whole : goal.returns-then-is_whole
returns-then-is_whole c = fill_stop c.requires c.loop-j.invariant (c.is_whole.ensures.holds c.if-is_whole.true)

pub insert-requires : goal.insert-requires
insert-requires c = fill_asked c.requires c.loop-j.invariant c.loop-j-test.true

pub loop-j-preserved : goal.loop-j-preserved
loop-j-preserved c = fill_more c.requires c.loop-j.invariant c.loop-j-test.true c.insert.ensures

pub returns : goal.returns
returns c = fill_end c.requires c.loop-j.invariant (omega arith)
