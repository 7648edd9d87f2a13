-- `vector::dot` meets its contract. The loop's invariant: r is the sum up to n.
use mathlib.Core.Path.{◌≡◌}
use Prim.Native.Nat.{◌-◌}
use native.Mathlib.Omega.{arith}
use Rattle.vector.proofs.Loop.{paired_start, paired_more, paired_end}
use Rattle.vector.proofs.dot.Goals as goal

pub loop-n-init : goal.loop-n-init
loop-n-init c = (paired_start _ c.args.a.now c.args.b.now c.args.s c.args.from (omega (arith, c.requires.a_vec.below 0)), omega arith)

pub mul_add-r-requires : goal.mul_add-r-requires
mul_add-r-requires c =
    record { below_1 = c.requires.a_vec.below _; below_2 = c.requires.b_vec.below _; below_3 = c.loop-n.invariant.0.below }

pub loop-n-preserved : goal.loop-n-preserved
loop-n-preserved c =
    let a = c.args in
    (paired_more a.a.now a.b.now a.s a.from c.loop-n.n (omega arith) c.loop-n.invariant.0 c.mul_add-r.ensures, omega arith)

pub returns : goal.returns
returns c =
    let a = c.args in
    let e : c.loop-n.n - a.from ≡ a.to - a.from = omega arith in
    paired_end a.a.now a.b.now a.s a.from _ _ e c.loop-n.invariant.0
