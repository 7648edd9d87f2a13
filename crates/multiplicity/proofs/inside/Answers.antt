-- `multiplicity::inside` meets its contract. The loop's invariant is Within of proofs/Rests.
use native.Mathlib.Omega.{arith}
use Rattle.multiplicity.proofs.Rests.{within-start, within-asked, within_more, within_stop, within_end}
use mathlib.Core.Path.{ap}
use mathlib.Core.Bool.{not}
use Rattle.multiplicity.proofs.inside.Goals as goal

pub loop-j-init : goal.loop-j-init
loop-j-init c = within-start c.requires

pub overflow_add-top : goal.overflow_add-top
overflow_add-top c = omega (arith, (c.requires.full.present c.loop-j.j (omega arith)).inside)

pub member-requires : goal.member-requires
member-requires c = within-asked c.loop-j.invariant (omega arith)

pub returns-then-not-member : goal.returns-then-not-member
returns-then-not-member c = within_stop c.loop-j.invariant (omega arith) c.member.ensures (ap not c.if-not-member.true)

pub loop-j-preserved : goal.loop-j-preserved
loop-j-preserved c = within_more c.loop-j.invariant (omega arith) c.member.ensures (ap not c.if-not-member.false)

pub returns : goal.returns
returns c = within_end c.loop-j.invariant (omega arith)
