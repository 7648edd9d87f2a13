-- `multiples::multiple` meets its contract. The loop's invariant: r stands for i copies of a, b for j copies, and i + n·j = m. The measure is n.
use Prim.Native.Nat.{◌/◌}
use native.Mathlib.Omega.{arith}
use Rattle.group.specs.Contract.{NegativeAsked}
use Rattle.multiples.proofs.Copies.{Held, held-add, held-twice, held_start, held-odd, held_even, held_done, held-double, held-end}
use Rattle.multiples.proofs.multiple.Goals as goal
use Rattle.multiples.proofs.multiple.Goals.{Joined-n-eq1, then-n-eq1, else-n-eq1}

-- after the first branch, with n yet to be halved
halved : (c : Joined-n-eq1) (A : NegativeAsked c.args.g c.args.a) → Held A.grounded A.a_is c.args.m 2 c.if-n-eq1.r c.loop-n.b (c.loop-n.n / 2)
halved c A =
    let h = c.loop-n.invariant A in
    elim c.if-n-eq1.branch [
      | then-n-eq1 w ↦ rw w.r-is (held-odd A.grounded A.a_is h w.if-n-eq1.true w.sum-s.ensures)
      | else-n-eq1 w ↦ rw w.r-is (held_even A.grounded A.a_is h w.if-n-eq1.false)
    ]

pub loop-n-init : goal.loop-n-init
loop-n-init c A = held_start A.grounded A.a_is c.zero_class-r.ensures

pub sum-s-requires : goal.sum-s-requires
sum-s-requires c =
    let A = c.requires in
    held-add A.grounded A.a_is (c.loop-n.invariant A)

pub sum-c-requires : goal.sum-c-requires
sum-c-requires c =
    let A = c.requires in
    held-twice A.grounded A.a_is (c.loop-n.invariant A)

pub loop-n-smaller-then-n-gt0 : goal.loop-n-smaller-then-n-gt0
loop-n-smaller-then-n-gt0 c = omega arith

pub loop-n-preserved-then-n-gt0 : goal.loop-n-preserved-then-n-gt0
loop-n-preserved-then-n-gt0 c A = held-double A.grounded A.a_is (halved (goal.at.loop-n-preserved-then-n-gt0 c).Joined-n-eq1 A) c.sum-c.ensures

pub loop-n-smaller : goal.loop-n-smaller
loop-n-smaller c = omega arith

pub loop-n-preserved : goal.loop-n-preserved
loop-n-preserved c A = held_done A.grounded A.a_is (halved (goal.at.loop-n-preserved c).Joined-n-eq1 A) (omega arith)

pub returns : goal.returns
returns c A = held-end A.grounded A.a_is (c.loop-n.invariant A) (omega arith)
