-- `lambda::functional` meets its contract. The loop's invariant is Partial of proofs/Partial.
use native.Mathlib.Omega.{arith}
use Rattle.lambda.proofs.Partial.{partial_start, partial_asked, partial_more, partial_done}
use Rattle.lambda.proofs.functional.Goals as goal

pub loop-s-init : goal.loop-s-init
loop-s-init c = partial_start c.requires

pub value-v-requires : goal.value-v-requires
value-v-requires c =
    partial_asked c.requires c.loop-s.invariant (omega arith) c.loop-s-test.true

pub opposite-requires : goal.opposite-requires
opposite-requires c = omega arith

pub loop-s-preserved : goal.loop-s-preserved
loop-s-preserved c =
    partial_more c.requires c.loop-s.invariant (omega arith) c.loop-s-test.true c.value-v.ensures c.opposite.ensures

pub returns : goal.returns
returns c = partial_done (omega arith) c.loop-s.invariant
