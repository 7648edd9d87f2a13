-- The pairs are read one after another, and each point is added.
use Prim.Native.Nat.{◌-◌, ◌≤◌}
use native.Mathlib.Omega.{arith}
use lib.ListN.{length, drop, length-drop, length-take}
use Rattle.refusal.proofs.Passed.{passed_on}
use Rattle.points.proofs.Walk.{walked_start, walked_asked, walked_more, walked_refused, walked_end}
use Rattle.points.proofs.total.Goals as goal

pub loop-left-init : goal.loop-left-init
loop-left-init c = walked_start _ c.zero_class-sum.ensures

pub returns-in_err-x : goal.returns-in_err-x
returns-in_err-x c =
    rw (passed_on _ c.from_residual.ensures.1) (walked_refused _ _ c.loop-left.invariant c.in-len2-up.len_at_least _ c.in_err-x.ensures)

pub sum-sum-requires : goal.sum-sum-requires
sum-sum-requires c = walked_asked _ _ c.loop-left.invariant c.in-len2-up.len_at_least c.in_ok-x.ensures c.requires

pub loop-left-preserved : goal.loop-left-preserved
loop-left-preserved c = walked_more _ _ c.loop-left.invariant c.in-len2-up.len_at_least c.in_ok-x.ensures c.sum-sum.ensures

pub loop-left-smaller : goal.loop-left-smaller
loop-left-smaller c =
    let left = c.loop-left.left.now in
    let two : 2 ≤ length left = omega arith in
    omega (arith, length-drop 2 left, length-take (length left - 2) (drop 2 left))

pub returns : goal.returns
returns c = walked_end _ _ c.loop-left.invariant (omega arith)
