-- In the loop the denominators before the coefficient i are in place.
use native.Mathlib.Omega.{arith}
use Rattle.quotients.proofs.Loops.{read_start, read_more, read_done}
use Rattle.quotients.proofs.residues.Goals as goal

pub loop-i-init : goal.loop-i-init
loop-i-init c = read_start c.args.s.now c.args.p

pub loop-i-preserved : goal.loop-i-preserved
loop-i-preserved c =
    read_more c.args.s.now c.args.p c.loop-i-test.true c.loop-i.invariant c.denominator.ensures

pub returns : goal.returns
returns c =
    read_done c.args.s.now c.args.p (omega (arith, c.loop-i-test.false)) c.loop-i.invariant
