-- `pool::run_calls` meets its contract. The loop's invariant: the calls before place `at` are made; the pool holds the records left.
use mathlib.Core.Path.{refl, sym, ◌∙◌}
use Prim.Native.Nat.{◌+◌, ◌-◌, ◌≤◌}
use native.Mathlib.Omega.{arith}
use lib.ListN.{length, get_or, take}
use lib.Seq.{length-take-le, length_front}
use Rattle.pool.proofs.Runs.{going_none, going_three, going_small, going_asked, going_more, going_all}
use Rattle.pool.proofs.run_calls.Goals as goal

pub loop-at-init : goal.loop-at-init
loop-at-init c =
    let a = c.args in
    (refl, refl, going_none a.curve.now a.pool.now a.count a.calls.now (length a.scratch.now) c.requires)

pub overflow_cast-i : goal.overflow_cast-i
overflow_cast-i c = omega (arith, c.shared_slice_known-in-loop-at-1.given c.loop-at.at)

pub bounds-calls-at-in-loop-at : goal.bounds-calls-at-in-loop-at
bounds-calls-at-in-loop-at c =
    let a = c.args in
    let v = c.loop-at in
    let q = c.requires in
    let three : v.at + 3 ≤ length a.calls.now = going_three a.curve.now a.pool.now a.count a.calls.now (length a.scratch.now) q v.pool v.left v.at
    v.invariant.2 (omega arith) in
    omega arith

pub overflow_cast-j : goal.overflow_cast-j
overflow_cast-j c = omega (arith, c.shared_slice_known-in-loop-at-2-1.given (c.loop-at.at + 1))

pub overflow_add-l : goal.overflow_add-l
overflow_add-l c =
    let a = c.args in
    let v = c.loop-at in
    let q = c.requires in
    let three : v.at + 3 ≤ length a.calls.now = going_three a.curve.now a.pool.now a.count a.calls.now (length a.scratch.now) q v.pool v.left v.at
    v.invariant.2 (omega arith) in
    omega arith

pub bounds-calls-at-in-loop-at-2 : goal.bounds-calls-at-in-loop-at-2
bounds-calls-at-in-loop-at-2 c =
    let a = c.args in
    let v = c.loop-at in
    let q = c.requires in
    let three : v.at + 3 ≤ length a.calls.now = going_three a.curve.now a.pool.now a.count a.calls.now (length a.scratch.now) q v.pool v.left v.at
    v.invariant.2 (omega arith) in
    omega arith

pub overflow_cast-l : goal.overflow_cast-l
overflow_cast-l c = omega (arith, c.shared_slice_known-in-loop-at-3-1.given (c.loop-at.at + 2))

pub slice_bounds-step-end : goal.slice_bounds-step-end
slice_bounds-step-end c =
    let a = c.args in
    let v = c.loop-at in
    let q = c.requires in
    let small : get_or a.calls.now (v.at + 2) 0 ≤ length a.scratch.now = going_small a.curve.now a.pool.now a.count a.calls.now (length a.scratch.now) q v.pool
    v.left v.at v.invariant.2 (omega arith) in omega arith

pub slice_bounds-step-end-in-loop-at : goal.slice_bounds-step-end-in-loop-at
slice_bounds-step-end-in-loop-at c =
    let a = c.args in
    let v = c.loop-at in
    let q = c.requires in
    let small : get_or a.calls.now (v.at + 2) 0 ≤ length a.scratch.now = going_small a.curve.now a.pool.now a.count a.calls.now (length a.scratch.now) q v.pool
    v.left v.at v.invariant.2 (omega arith) in
    sym (length-take-le (get_or a.calls.now (v.at + 2) 0) v.scratch (omega arith))

pub step-left-requires : goal.step-left-requires
step-left-requires c =
    let a = c.args in
    let v = c.loop-at in
    let q = c.requires in
    going_asked a.curve.now a.pool.now a.count a.calls.now (length a.scratch.now) q v.pool v.left v.at v.invariant.2 (omega arith)

pub overflow_add-at : goal.overflow_add-at
overflow_add-at c =
    let a = c.args in
    let v = c.loop-at in
    let q = c.requires in
    let three : v.at + 3 ≤ length a.calls.now = going_three a.curve.now a.pool.now a.count a.calls.now (length a.scratch.now) q v.pool v.left v.at
    v.invariant.2 (omega arith) in
    omega arith

pub loop-at-smaller : goal.loop-at-smaller
loop-at-smaller c =
    let a = c.args in
    let v = c.loop-at in
    let q = c.requires in
    let three : v.at + 3 ≤ length a.calls.now = going_three a.curve.now a.pool.now a.count a.calls.now (length a.scratch.now) q v.pool v.left v.at
    v.invariant.2 (omega arith) in
    omega arith

pub loop-at-preserved : goal.loop-at-preserved
loop-at-preserved c =
    let a = c.args in
    let v = c.loop-at in
    let q = c.requires in
    let k = c.step-left in
    let b = get_or a.calls.now (v.at + 2) 0 in
    let small : b ≤ length a.scratch.now = going_small a.curve.now a.pool.now a.count a.calls.now (length a.scratch.now) q v.pool v.left v.at v.invariant.2
    (omega arith) in (
      k.auto.s ∙ v.invariant.0,
      length_front v.scratch k.new.out b k.auto.out ∙ v.invariant.1,
      going_more a.curve.now a.pool.now a.count a.calls.now (length a.scratch.now) q v.pool v.left v.at v.invariant.2 (omega arith) (take b v.scratch)
          k.new.s k.result (length-take-le b v.scratch (omega arith)) k.ensures,
    )

pub returns : goal.returns
returns c =
    let a = c.args in
    let v = c.loop-at in
    let q = c.requires in
    going_all a.curve.now a.pool.now a.count a.calls.now (length a.scratch.now) q v.pool v.left v.at (omega arith) v.invariant.2
